use Rattle.std.proofs.Common.{◌≤◌, drop}
use Rattle.hg_talk.specs.Going.{IsGoing}
use Rattle.hg_talk.proofs.conversation.take_piece.Given as goal

abbrev pub invariant-loop-byte : goal.invariant-loop-byte
invariant-loop-byte g l = record {
  going : IsGoing (g.C.Client.log l.client) (g.H.Host.heard l.host) l.framer (drop l.byte-index l.piece) l.text.items;
  ready : g.H.Host.ready l.host;
  later : g.C.Client.faults l.initial.client ≤ g.C.Client.faults l.client;
}
