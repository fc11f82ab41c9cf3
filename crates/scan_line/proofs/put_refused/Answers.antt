-- `scan_line::put_refused` writes the pieces of a refusal's line, two at a time where a label goes before a number.
-- Assumes nothing.
use borrow.Author.Rules.{rules}
use Rattle.text.specs.declared.Refusal.{Refusal}
use Rattle.scan_line.proofs.Going.{puts, puts_two, fits, fits_two, ended, from_first}
use Rattle.scan_line.proofs.Laws.{refused_begin, refused_room}
use Rattle.scan_line.proofs.put_refused.Goals as goal

pub put_number-first-requires : goal.put_number-first-requires
put_number-first-requires c =
    let a = c.args in
    let x : Refusal = record { number = a.number; keyword = a.keyword; at = a.at } in
    let room = refused_room a.page.now x c.told-page (search rules) (search rules) (search rules) in
    fits_two room (refused_begin a.page.now 0 x)

pub put_number-second-requires : goal.put_number-second-requires
put_number-second-requires c =
    let a = c.args in
    let x : Refusal = record { number = a.number; keyword = a.keyword; at = a.at } in
    let room = refused_room a.page.now x c.told-page (search rules) (search rules) (search rules) in
    fits_two room (puts_two (refused_begin a.page.now 0 x) c.put_number-first.ensures)

pub put_number-third-requires : goal.put_number-third-requires
put_number-third-requires c =
    let a = c.args in
    let x : Refusal = record { number = a.number; keyword = a.keyword; at = a.at } in
    let room = refused_room a.page.now x c.told-page (search rules) (search rules) (search rules) in
    let one = puts_two (refused_begin a.page.now 0 x) c.put_number-first.ensures in
    fits_two room (puts_two one c.put_number-second.ensures)

pub put-requires : goal.put-requires
put-requires c =
    let a = c.args in
    let x : Refusal = record { number = a.number; keyword = a.keyword; at = a.at } in
    let room = refused_room a.page.now x c.told-page (search rules) (search rules) (search rules) in
    let one = puts_two (refused_begin a.page.now 0 x) c.put_number-first.ensures in
    let two = puts_two one c.put_number-second.ensures in
    fits room (puts_two two c.put_number-third.ensures)

pub returns-clause-line : goal.returns-clause-line
returns-clause-line c =
    let a = c.args in
    let x : Refusal = record { number = a.number; keyword = a.keyword; at = a.at } in
    let one = puts_two (refused_begin a.page.now 0 x) c.put_number-first.ensures in
    let two = puts_two one c.put_number-second.ensures in
    let three = puts_two two c.put_number-third.ensures in
    let four = puts three c.put.ensures in
    from_first (ended four)
