use Rattle.std.proofs.Common.{[], None}
use Rattle.hg_cursor.specs.Given.{begins_at, joined}
use Rattle.hg_cursor.proofs.Joining.{given_none, given_all, given_begins, given_whole}
use Rattle.hg_cursor.proofs.laws.fetches_are_the_scan.Goals as goal

pub returns-clause-prefix : goal.returns-clause-prefix
returns-clause-prefix c = λ look low high fetches rest all f a. given_begins look low high rest (joined fetches) all
    (given_all look low high (begins_at low high) rest [] fetches (given_none look low high) f) a

pub returns-clause-whole : goal.returns-clause-whole
returns-clause-whole c = λ look low high fetches all f a. given_whole look low high (joined fetches) all (given_all look low high (begins_at low high) None [] fetches (given_none look low high) f) a
