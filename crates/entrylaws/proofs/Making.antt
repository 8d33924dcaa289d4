-- Making an entry goes by what a find says. Assumes nothing.
use mathlib.Core.Bool.{Bool, true, false, cond}
use mathlib.Core.List.{[]}
use mathlib.Core.Logic.{◌⊎◌, inl, inr}
use mathlib.Core.Path.{◌≡◌, refl, sym, ap, subst, ◌∙◌}
use Prim.Native.Nat.{ℕ, ◌%◌}
use borrow.Author.Tests.{ne_eqb, eqb-false}
use lib.Dec.{eqb}
use Rattle.rules.specs.Cells.{Lent, shape, zero_hash}
use Rattle.rules.specs.Walk.{Stop, met, tail, broken, walk}
use Rattle.rules.specs.Answers.{Said, found, absent, refused, Answer}
use Rattle.rules.specs.Calls.{find_at, find_in, find}
use Rattle.rules.specs.Entries.{Place, occupied, vacant, Making, made, unless_made, make_at, make_in, entry_of}
use Rattle.steps.proofs.Branches.{find_shape}
use Rattle.laws.proofs.Ways.{shape_says}
use Rattle.entrylaws.specs.Made.{Makable, MakeWay, MadeBy}
use Rattle.entrylaws.specs.Made as ways

module _ (l : Lent) (k : ℕ) where
  abbrev h : ℕ
  h = l.params.hash_of k

  abbrev S : ℕ
  S = l.params.S

  abbrev null : ℕ
  null = l.params.null

  -- a find past its checks says what the walk's stop calls for
  pub find_at_lem : Makable l k → (s : Stop) → (walk S l.cells h k).stop ≡ s → (find l k).said ≡ find_at S null l.value s
  unfolding find find_in
  find_at_lem p s e = rw (p.shape, p.hash, e)

  at_stop : Makable l k → (s : Stop) → (walk S l.cells h k).stop ≡ s → MakeWay l k (make_at S null l.value h k s)
  at_stop p (met q) e = go (eqb (l.value (q % S)) null) refl
    where
      go : (b : Bool) → eqb (l.value (q % S)) null ≡ b
          → MakeWay l k (made (record { key = k; hash = h; place = cond {A = Place} b vacant (occupied (q % S)) }))
      go true x = ways.vacates p (find_at_lem p (met q) e ∙ rw x) refl
      go false x = ways.occupies p q e (eqb-false _ _ x) refl
  at_stop p (tail q) e = ways.vacates p (find_at_lem p (tail q) e) refl
  at_stop p broken e = ways.endless p e refl

  zero_said : shape l ≡ 0 → zero_hash h ≡ 2 → (find l k).said ≡ refused 2 []
  unfolding find
  zero_said s z = rw (s, z)

  hash_says : (zero_hash h ≡ 2) ⊎ (zero_hash h ≡ 0)
  hash_says = go (eqb h 0)
    where
      go : (b : Bool) → (cond {A = ℕ} b 2 0 ≡ 2) ⊎ (cond {A = ℕ} b 2 0 ≡ 0)
      go true = inl refl
      go false = inr refl

  -- the making of an entry is refused by 1, 2 or 5, or gives one of its case
  pub make_way : MakeWay l k (entry_of l k)
  unfolding entry_of make_in
  make_way = go (shape_says l) hash_says
    where
      go : (shape l ≡ 0) ⊎ (shape l ≡ 1) → (zero_hash h ≡ 2) ⊎ (zero_hash h ≡ 0)
          → MakeWay l k (unless_made (shape l) (unless_made (zero_hash h) (make_at S null l.value h k (walk S l.cells h k).stop)))
      go (inr s) z = ways.by1 s (rw s)
      go (inl s) (inl z) = ways.by2 s z (rw (s, z))
      go (inl s) (inr z) = rw (s, z) (at_stop (record { shape = s; hash = z }) _ refl)

  -- Occupied, with its cell, where a find gives a value; else Vacant, also for a removed key; refused as the find is
  pub made_by_find : MadeBy l k (find l k).said (entry_of l k)
  made_by_find = go _ make_way
    where
      by : (s : Said) (m : Making) → (find l k).said ≡ s → MadeBy l k s m → MadeBy l k (find l k).said m
      by s m q x = subst (λ (s : Said). MadeBy l k s m) (sym q) x

      go : (m : Making) → MakeWay l k m → MadeBy l k (find l k).said m
      go m (ways.by1 s e) = by (refused 1 []) m (sym (ap (λ (a : Answer). a.said) (find_shape l k s))) e
      go m (ways.by2 s z e) = by (refused 2 []) m (zero_said s z) e
      go m (ways.endless p q e) = by (refused 5 []) m (find_at_lem p broken q) e
      go m (ways.occupies p q x n e) =
          by (found (l.value (q % S))) m (find_at_lem p (met q) x ∙ rw (ne_eqb _ _ n)) (q % S, e, refl)
      go m (ways.vacates p x e) = by absent m x e
