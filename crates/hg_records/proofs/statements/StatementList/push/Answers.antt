use Rattle.std.proofs.Common.{◌≡◌, ◌<◌, ◌+◌, ◌==◌, ◌∙◌, ◌∷◌, ◌++◌, [], length, get_or, None, if◌then◌else◌, refl, sym, ap, subst, arith, length-append}
use Rattle.std.proofs.lemmas.List.{length-map}
use Rattle.hg_base.proofs.ListFacts.{each_snoc}
use Rattle.hg_base.specs.declared.limits.TheConstants.{MOST_RECORDS}
use Rattle.hg_records.specs.declared.ends.TheConstants.{NOWHERE}
use Rattle.hg_records.specs.declared.statements.Entry.{Entry}
use Rattle.hg_records.specs.Packed.{HasSession, IsWithin, added, added_rows, packed_as, unpacked}
use Rattle.std.specs.Option.{option_or}
use Rattle.hg_records.specs.Cursors.{HasCursor, cursor_among, table_opened}
use Rattle.hg_records.proofs.Opening.{cursor_more, cursored_more, led_cursor, led_cursored, packed_has, packed_opens}
use Rattle.hg_records.proofs.Links.{chained_more, led_many}
use Rattle.hg_records.proofs.Unpacked.{led_session, led_unpacked, led_within, one_more, one_row, within_more}
use Rattle.hg_records.proofs.statements.StatementList.push.Goals as goal

pub invariant_of-self-2 : goal.invariant_of-self-2
invariant_of-self-2 c =
    let es = c.self.inside.entries.items in
    let ns = c.self.inside.numbers.items in
    let rows = c.self.inside.rows.items in
    let x : Entry = record { session = c.args.session; next = NOWHERE; packed = c.in_ok-packed.packed } in
    let (most, few, few_rows, within, sessions, chained, cursored, known) = c.self.invariant in
    let cursor : c.of-cursor.result ≡ cursor_among c.args.session es = c.of-cursor.ensures ∙ known c.args.session c.requires.session in
    let opened : table_opened x.packed ≡ c.opens-opened.result = ap table_opened c.in_ok-packed.ensures.packed ∙
    packed_opens c.of-cursor.result (length ns) (length rows) c.args.statement ∙ sym c.opens-opened.ensures in
    let room = rw (← c.self.view_is) at c.requires.room in
    let less : length es < MOST_RECORDS = omega (arith, room, length-map es (unpacked ns rows)) in
    let same : c.push.new.self.items ≡ es ++ x ∷ [] = rw (c.in_ok-push.ensures.items, c.reserve.ensures.items) refl in
    let here : c.len-here.result ≡ length es = omega (arith, c.len-here.ensures, ap length c.reserve.ensures.items) in
    let more : length (es ++ x ∷ []) ≡ length es + 1 = length-append es (x ∷ []) in
    rw (c.lead.ensures, same, here, led_many c.note-last.result (length es) (es ++ x ∷ [])) (
      omega (arith, less, more),
      omega (arith, few, more, c.in_ok-packed.ensures.few, ap length c.in_ok-packed.ensures.numbers, length-append ns (added c.args.statement)),
      omega (arith, few_rows, more, one_row c.args.statement, ap length c.in_ok-packed.ensures.rows, length-append rows (added_rows c.args.statement)),
      led_within (length c.pack.new.numbers.items) (length c.pack.new.rows.items) c.note-last.result (length es) (es ++ x ∷ [])
          (each_snoc (IsWithin (length c.pack.new.numbers.items) (length c.pack.new.rows.items)) es x
          (rw (c.in_ok-packed.ensures.numbers, c.in_ok-packed.ensures.rows) (within_more ns (added c.args.statement) rows (added_rows c.args.statement) es within)) c.in_ok-packed.ensures.within),
      led_session c.note-last.result (length es) (es ++ x ∷ []) (each_snoc HasSession es x sessions c.requires.session),
      chained_more c.self.inside.ends c.note-last.new.self es x c.note-last.result chained c.requires.session refl (omega (arith, less)) c.note-last.ensures.before
          (λ j. rw here at (c.note-last.ensures.first j)) (λ j. rw here at (c.note-last.ensures.last j)),
      led_cursored c.note-last.result (length es) (es ++ x ∷ [])
          (cursored_more [] es x cursored (subst (HasCursor (cursor_among c.args.session es)) (sym c.in_ok-packed.ensures.packed)
          (subst (λ o. HasCursor o (packed_as c.of-cursor.result (length ns) (length rows) c.args.statement)) cursor (packed_has c.of-cursor.result (length ns) (length rows) c.args.statement)))),
      λ j h.
          c.note.ensures j
          ∙ ap (λ o. option_or (if c.args.session == j then o else None) (get_or c.self.inside.cursors.tables j None)) (sym opened)
          ∙ ap (option_or (if c.args.session == j then table_opened x.packed else None)) (known j h)
          ∙ sym (cursor_more j es x)
          ∙ sym (led_cursor j c.note-last.result (length es) (es ++ x ∷ [])),
    )

pub returns-clause-ok : goal.returns-clause-ok
returns-clause-ok c =
    rw (
      ← c.self.view_is,
      c.lead.ensures,
      led_unpacked c.pack.new.numbers.items c.pack.new.rows.items c.note-last.result c.len-here.result c.push.new.self.items,
      c.in_ok-push.ensures.items,
      c.in_ok-packed.ensures.numbers,
      c.in_ok-packed.ensures.rows,
      c.in_ok-packed.ensures.packed,
      c.reserve.ensures.items,
    )
    (one_more c.of-cursor.result c.self.inside.numbers.items c.self.inside.rows.items c.self.inside.entries.items c.args.session NOWHERE c.args.statement c.in_ok-packed.ensures.keys c.self.invariant.3)
