-- A Vacant entry's insert, as the rules of entries have it. Assumes nothing.
use mathlib.Core.Bool.{Bool, true, false, cond}
use mathlib.Core.List.{[]}
use mathlib.Core.Logic.{◌≢◌}
use mathlib.Core.Path.{◌≡◌, refl, sym, ap, ◌∙◌}
use Prim.Native.Nat.{ℕ}
use Rattle.rules.specs.Cells.{Lent}
use Rattle.rules.specs.Answers.{Answer, refused, Outcome, leave}
use Rattle.rules.specs.Calls.{find_in}
use Rattle.rules.specs.Entries.{vacant, Entry, inserting, use_shape, offers, is_found, outdated, used_vacant, use_entry}
use Rattle.steps.proofs.Branches.{find_past}
use Rattle.entries.proofs.Using.{use_shaped, use_stale, use_past, stale_outdated, stale_not}
use Rattle.entryinsert.specs.Workers.{put_in}

module _ (l : Lent) (e : Entry) (v : ℕ) (s : use_shape l e.place ≡ 0) (o : offers l.params.null (inserting v) ≡ 0) (some : l.params.hash_of e.key ≢ 0)
    (at : e.place ≡ vacant) (own : e.hash ≡ l.params.hash_of e.key) where
  pub use_put : use_entry l e (inserting v) ≡ put_in l.params.S l.params.null l.cells l.value l.counts e.hash e.key v
  unfolding put_in
  use_put = go (is_found (find_in l.params.S l.params.null l.cells l.value e.hash e.key).said) refl
    where
      found_as : outdated l e e.place ≡ is_found (find_in l.params.S l.params.null l.cells l.value e.hash e.key).said
      found_as =
          rw at
          (ap (λ (x : Answer). is_found x.said) (sym (find_past l e.key e.hash own (use_shaped l e.place s) (λ z. some (sym own ∙ z)))))

      go : (b : Bool) → is_found (find_in l.params.S l.params.null l.cells l.value e.hash e.key).said ≡ b
          → use_entry l e (inserting v)
          ≡ cond {A = Outcome} b (leave (refused 7 []) 0 l.counts) (used_vacant l e (inserting v))
      go true q = use_stale l e (inserting v) s o some (stale_outdated l e (found_as ∙ q))
      go false q = use_past l e (inserting v) s o some (stale_not l e own (found_as ∙ q)) ∙ rw at
