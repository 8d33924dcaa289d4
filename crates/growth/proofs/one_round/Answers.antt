-- `growth::one_round` meets its contract. Assumes nothing.
use borrow.Author.Rules.{rules}
use mathlib.Core.Path.{◌≡◌, refl}
use Rattle.cells.specs.declared.insert.Put.TheVariants.{New, Replaced, Revived, Full, Broken}
use Rattle.growth.proofs.Fulls.{round_answered, round_full}
use Rattle.growth.proofs.one_round.Goals as goal

pub returns-in-New : goal.returns-in-New
returns-in-New c =
    let q : c.insert_stored-done.result.said ≡ New = search rules in
    round_answered c.args.cells c.args.size c.args.live c.args.cell.hash c.args.cell.key c.args.cell.value c.args.words.now c.args.deltas.now c.args.spare_words.now c.args.spare_deltas.now c.insert_stored-done.result _ _ c.insert_stored-done.ensures.done
    _ q refl

pub returns-in-Replaced : goal.returns-in-Replaced
returns-in-Replaced c =
    let q : c.insert_stored-done.result.said ≡ Replaced c.in-Replaced.old = search rules in
    round_answered c.args.cells c.args.size c.args.live c.args.cell.hash c.args.cell.key c.args.cell.value c.args.words.now c.args.deltas.now c.args.spare_words.now c.args.spare_deltas.now c.insert_stored-done.result _ _ c.insert_stored-done.ensures.done
    _ q refl

pub returns-in-Revived : goal.returns-in-Revived
returns-in-Revived c =
    let q : c.insert_stored-done.result.said ≡ Revived = search rules in
    round_answered c.args.cells c.args.size c.args.live c.args.cell.hash c.args.cell.key c.args.cell.value c.args.words.now c.args.deltas.now c.args.spare_words.now c.args.spare_deltas.now c.insert_stored-done.result _ _ c.insert_stored-done.ensures.done
    _ q refl

pub returns-in-Broken : goal.returns-in-Broken
returns-in-Broken c =
    let q : c.insert_stored-done.result.said ≡ Broken = search rules in
    round_answered c.args.cells c.args.size c.args.live c.args.cell.hash c.args.cell.key c.args.cell.value c.args.words.now c.args.deltas.now c.args.spare_words.now c.args.spare_deltas.now c.insert_stored-done.result _ _ c.insert_stored-done.ensures.done
    _ q refl

pub returns-in-Full : goal.returns-in-Full
returns-in-Full c =
    let q : c.insert_stored-done.result.said ≡ Full c.in-Full.at = search rules in
    round_full c.args.cells c.args.size c.args.live c.args.cell.hash c.args.cell.key c.args.cell.value c.args.words.now c.args.deltas.now c.args.spare_words.now c.args.spare_deltas.now c.insert_stored-done.result _ _ c.insert_stored-done.ensures.done c.in-Full.at q _ c.after_full.ensures
