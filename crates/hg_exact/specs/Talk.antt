-- A short conversation: what a client sends, and what is answered to each record.
use Rattle.std.specs.Prelude.{ℕ, List, [], ◌∷◌, codes, pos, ◌==◌, if◌then◌else◌, None, Some}
use Rattle.hg_base.specs.declared.line.Answer.TheVariants.{Begun, Stored, Undone}
use Rattle.hg_base.specs.declared.report.Kind.TheVariants.{Table}
use Rattle.hg_base.specs.Text.{Field}
use Rattle.hg_decide.specs.Writing.{line, only_t, row, swept, totals, unmoved_of}
use Rattle.hg_script.specs.declared.code.Code.TheVariants.{Number}
use Rattle.hg_talk.specs.Framing as talk
use Rattle.hg_talk.specs.Framing.{Sent}
use Rattle.hg_exact.specs.Conversed.{Answered, Declared, Bad, TooLong, Replied, Counted}

-- ---- a record by its text

-- one more byte at the start of the first field
abbrev pub onto_first : ℕ → List Field → List Field
onto_first c [] = []
onto_first c (field ∷ fields) = (c ∷ field) ∷ fields

-- the fields of a record without quotes, between its commas
abbrev pub fields_in : List ℕ → List Field
fields_in [] = [] ∷ []
fields_in (c ∷ text) = if c == 44 then [] ∷ fields_in text else onto_first c (fields_in text)

-- the record of this text
abbrev pub sends : List ℕ → Sent
sends text = talk.Record (fields_in text)

-- ---- the conversation

-- What is sent: a table and a row, a record that breaks a rule, a transaction that is open while another session reads and a collector makes a
-- round, its rollback, the question for the totals, and a record that is too long.
abbrev pub short_talk : List Sent
short_talk =
    sends (codes "table,t,1")
    ∷ sends (codes "1,put,t,5,20")
    ∷ sends (codes "1,get,t,five")
    ∷ sends (codes "1,begin")
    ∷ sends (codes "1,put,t,5,30")
    ∷ sends (codes "2,get,t,5")
    ∷ sends (codes "2,gc,table")
    ∷ sends (codes "1,rollback")
    ∷ sends (codes "totals")
    ∷ talk.Long
    ∷ []

-- the answers
abbrev pub short_answers : List Answered
short_answers =
    Declared 1
    ∷ Replied only_t (record { session = 1; place = 2; reply = record { at = Some 0; answer = Stored; number = Some 1 } })
    ∷ Bad 3 Number
    ∷ Replied only_t (line 1 4 (Begun 1))
    ∷ Replied only_t (line 1 5 Stored)
    ∷ Replied only_t (record { session = 2; place = 6; reply = record { at = Some 1; answer = row (pos 20); number = None } })
    ∷ Replied only_t (line 2 7 (swept Table 1 1 0 (unmoved_of 1 1 ∷ [])))
    ∷ Replied only_t (line 1 8 Undone)
    ∷ Counted (totals 2 1 0 0 0 1)
    ∷ TooLong 10
    ∷ []

-- what is written
abbrev pub short_texts : List (List ℕ)
short_texts =
    codes "declared,1\n"
    ∷ codes "1,2,at,0,stored,committed,1\n"
    ∷ codes "bad,3,Number\n"
    ∷ codes "1,4,begun,1\n"
    ∷ codes "1,5,stored\n"
    ∷ codes "2,6,at,1,row,20\n"
    ∷ codes "holds,1\n2,7,swept,table,1,1,0\n2,7,held,1,1,unmoved\n"
    ∷ codes "1,8,undone\n"
    ∷ codes "total,made,2\ntotal,undone,1\ntotal,group,0\ntotal,table,0\ntotal,interval,0\ntotal,left,1\n"
    ∷ codes "bad,10,Long\n"
    ∷ []
