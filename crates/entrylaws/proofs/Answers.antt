-- Which answers a use can give, beyond its refusals. Assumes nothing.
use mathlib.Core.Logic.{◌≢◌}
use mathlib.Core.Path.{◌≡◌, sym, ap, ◌∙◌}
use Prim.Native.Nat.{ℕ}
use native.Mathlib.Omega.{arith}
use borrow.Author.Tests.{ne_eqb}
use Rattle.rules.specs.Cells.{Lent}
use Rattle.rules.specs.Walk.{met}
use Rattle.rules.specs.Answers.{Said, replaced, Outcome}
use Rattle.rules.specs.Calls.{insert_stored}
use Rattle.rules.specs.Entries.{Entry, inserting, insert_by}
use Rattle.laws.proofs.Changes.{stored_changes}
use Rattle.entrylaws.specs.Uses.{Insertable, UseWay}
use Rattle.entrylaws.specs.Uses as ways
use Rattle.entrylaws.specs.Made.{Makable}
use Rattle.entrylaws.proofs.Ways.{use_way}
use Rattle.entrylaws.proofs.Making.{find_at_lem}
use Rattle.entrylaws.proofs.OnSound.{use_shaped}

-- an insert by a Vacant entry never answers Replaced: it has looked again
pub insert_never_replaced : (l : Lent) (e : Entry) (v old : ℕ) → (insert_by l e v).said ≢ replaced old
insert_never_replaced l e v old = go _ (use_way l e (inserting v))
  where
    never : (w : ℕ) → Insertable l e (inserting v) → (s : Said)
        → s ≡ (insert_stored l.params.S l.params.null l.cells l.value l.counts (l.params.hash_of e.key) e.key w).said
        → s ≢ replaced old
    never w u s q x =
        let f = stored_changes l.params.S l.params.null l.cells l.value l.counts (l.params.hash_of e.key) e.key w in
        let g = rw (sym q ∙ x) at f in
        let p : Makable l e.key = record { shape = use_shaped l e.place u.past.shape; hash = u.past.hash } in
        u.unfound old (find_at_lem l e.key p (met g.0.position) g.0.met_there ∙ rw (ne_eqb _ _ (λ z. g.1 (g.0.was ∙ z)), ← g.0.was))

    go : (o : Outcome) → UseWay l e (inserting v) o → o.said ≢ replaced old
    go o (ways.by1 s q) x = let z : ◌≡◌ {A = ℕ} 0 1 = cc in omega arith
    go o (ways.by3 s f q) x = let z : ◌≡◌ {A = ℕ} 0 1 = cc in omega arith
    go o (ways.by2 s f h q) x = let z : ◌≡◌ {A = ℕ} 0 1 = cc in omega arith
    go o (ways.by7 p s q) x = let z : ◌≡◌ {A = ℕ} 0 1 = cc in omega arith
    go o (ways.reads i u r q) x = r
    go o (ways.replaces i w u r q) x = let z : ◌≡◌ {A = ℕ} 0 1 = cc in omega arith
    go o (ways.removes i u r m q) x = let z : ◌≡◌ {A = ℕ} 0 1 = cc in omega arith
    go o (ways.under i u r m q) x = let z : ◌≡◌ {A = ℕ} 0 1 = cc in omega arith
    go o (ways.inserts w u r q) x = never w u o.said (ap (λ (o : Outcome). o.said) q) x
