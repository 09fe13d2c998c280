-- What a clause says of a queue and its passes.
use Rattle.crossbeam_queue.specs.SegTies.{IsSegPassOf}
use Rattle.hg_queue.specs.declared.known.Known.{Known}
use Rattle.hg_queue.specs.declared.line.QueuePass.{QueuePass}
use Rattle.hg_queue.specs.declared.queue.Queue.{Queue}

-- what a pass knows
abbrev pub known : QueuePass → Known
known p = p.pass.me.view.client

-- the pass is one of this queue
abbrev pub IsPassOf : Queue → QueuePass → Type 0
IsPassOf q p = IsSegPassOf q.line p.pass
