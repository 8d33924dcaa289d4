-- `hashentry::occupied::get` meets its contract. Assumes nothing.
use mathlib.Core.Path.{refl, sym, ap, ◌∙◌}
use Rattle.rules.specs.Entries.{reading}
use Rattle.rules.specs.Answers.{Outcome}
use Rattle.cells.specs.Layout.{lent}
use Rattle.entries.specs.Answers.{place_of, entry_in}
use Rattle.entries.proofs.Using.{use_shape_lem, use_unsized, use_ready, on_held, on_error, passed_as, passed_none}
use Rattle.hashentry.specs.Answers.{get_said}
use Rattle.hashentry.proofs.occupied.get.Goals as goal

pub returns-in_err-size : goal.returns-in_err-size
returns-in_err-size c =
    passed_none get_said c.from_residual.result _ _ c.from_residual.ensures.1 (rw c.in_err-size.ensures.ok_part at c.in_err-size.ensures.value)
    ∙ sym (ap (λ (o : Outcome). o.said) (use_shape_lem (lent c.args.words.now c.args.deltas.now c.args.table) (entry_in c.args.entry) reading (use_unsized c.args.words.now c.args.deltas.now c.args.table (place_of c.args.entry.place) c.size_at.ensures c.in_err-size.ensures.ok_part)))

pub look-requires : goal.look-requires
look-requires c =
    let r = use_ready c.args.words.now c.args.deltas.now c.args.table (place_of c.args.entry.place) c.size_at.ensures c.in_ok-size.ensures.ok_part in
    (r.0.words, r.1)

pub returns-in_err-found : goal.returns-in_err-found
returns-in_err-found c =
    passed_as get_said c.from_residual-in_err-found.result _ c.from_residual-in_err-found.ensures.1
    ∙ sym (ap (λ (o : Outcome). o.said) (on_error c.args.words.now c.args.deltas.now c.args.table (entry_in c.args.entry) reading c.size_at.ensures c.in_ok-size.ensures.ok_part refl _ c.look.ensures _ c.in_err-found.was (λ q. refl)))

pub returns : goal.returns
returns c = sym (ap (λ (o : Outcome). o.said) (on_held c.args.words.now c.args.deltas.now c.args.table (entry_in c.args.entry) reading c.size_at.ensures c.in_ok-size.ensures.ok_part refl _ c.look.ensures _ c.in_ok-found.was))
