use Rattle.std.proofs.Common.{◌≤◌, []}
use Rattle.hg_talk.specs.Going.{IsGoing}
use Rattle.hg_talk.proofs.conversation.converse.Given as goal

abbrev pub invariant-loop : goal.invariant-loop
invariant-loop g l = record {
  going : IsGoing (g.C.Client.log l.client) (g.H.Host.heard l.host) l.framer [] l.text.items;
  ready : g.H.Host.ready l.host;
  later : g.C.Client.faults l.initial.client ≤ g.C.Client.faults l.client;
}
