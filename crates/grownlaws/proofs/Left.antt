-- What a growing insert leaves in the four slices: by a refusal, with no Full, and after a try. Assumes nothing.
use mathlib.Core.List.{List, [], ◌∷◌}
use mathlib.Core.Path.{◌≡◌, refl, sym, ap, ◌∙◌}
use Prim.Native.Nat.{ℕ, suc, ◌≤◌, ◌<◌}
use native.Mathlib.Omega.{arith}
use lib.ListN.{length}
use Rattle.rules.specs.Cells.{Counts}
use Rattle.rules.specs.Answers.{refused, Change, nothing, Outcome}
use Rattle.rules.specs.Moves.{Became, stays}
use Rattle.rules.specs.Growing as rule
use Rattle.rules.specs.Growing.{other_half, LentHalves, sizes, GrowOutcome, refused_at, start, grow}
use Rattle.cells.specs.Layout.{size_in, fresh_words, fresh_deltas}
use Rattle.laws.specs.Full.{IsFull}
use Rattle.laws.proofs.Refusals.{stored_refused_leaves}
use Rattle.moving.specs.Slices.{words_become, deltas_become}
use Rattle.parts.specs.Halves.{half_of, of_half}
use Rattle.halves.specs.Answers.{Four}
use Rattle.parts.specs.declared.Growing.{Growing}
use Rattle.parts.proofs.Which.{unhalf, half_back}
use Rattle.growth.specs.Growth.{grow_said, lower_of, upper_of}
use Rattle.std.specs.Prelude.{Err}
use Rattle.growth.specs.declared.GrowError.TheVariants as errors
use Rattle.growth.specs.declared.GrowAnswer.{GrowAnswer}
use Rattle.growthlaws.specs.Rounds as ways
use Rattle.growthlaws.specs.Rounds.{RoundWay}
use Rattle.growthlaws.specs.Grown.{Halves, first_try}
use Rattle.growthlaws.proofs.Rounds.{round_way}
use Rattle.growthlaws.proofs.Checks.{Begun, checked, past, begun, passed_c}
use Rattle.growthlaws.proofs.Left.{no_full_as_insert, untried_leaves, tried_clears, checked_leaves, refused_leaves}
use Rattle.grownlaws.specs.Meets.{lent_on, ruled, first_insert, Meets, words_of, deltas_of}
use Rattle.grownlaws.proofs.Became.{same_lower, same_upper}
use Rattle.grownlaws.proofs.After.{lent_halves_lem, said_is, looked_is, moves_is, counts_is, size_is, half_is, hasher_is, lower_words_is, lower_deltas_is, upper_words_is, upper_deltas_is}
use Rattle.grownlaws.proofs.Answers.{no_room_said, none_made, answer_5_unmoved}

-- ---- a half that no change was made in

record Unchanged (u : Became) : Type 0 where
  words : (C : ℕ) (ws : List ℕ) → words_become C u ws ≡ ws
  deltas : (C : ℕ) (ds : List ℕ) → deltas_become C u ds ≡ ds

not_changed : Unchanged (stays [])
not_changed = record { words = λ C ws. refl; deltas = λ C ds. refl }

nothing_made : (c : Change) → c ≡ nothing → Unchanged (stays (c ∷ []))
nothing_made c e = rw e (record { words = λ C ws. refl; deltas = λ C ds. refl })

-- a refusal with no move changes nothing in the half in use
refused_unchanged : (l : LentHalves) → Halves l → (k v n : ℕ) (x : List ℕ) → (grow l k v).said ≡ refused n x → (grow l k v).moves ≡ [] → Unchanged (grow l k v).used
refused_unchanged l f k v n x = go _ _ (begun l k v)
  where
    at : (g : GrowOutcome) (m looked : ℕ) (s : Became) → g ≡ refused_at (start l) m looked s → Unchanged g.used
    at g m looked s e = rw e not_changed

    by : (g : GrowOutcome) → RoundWay l.C l.null l.hash_of l.clear (l.hash_of k) k v (suc sizes) (start l) g → g.said ≡ refused n x → g.moves ≡ [] → Unchanged g.used
    by g (ways.answers w e) y z =
        let r = stored_refused_leaves n x l.size l.null l.used.cells l.used.value l.counts (l.hash_of k) k v (rw e at y) in
        rw e (nothing_made _ r.change)
    by g (ways.untried w u e) y z = at g 6 _ _ e
    by g (ways.all_full w u t e) y z = at g 6 _ _ e
    by g (ways.breaks w t e) y z = at g 5 _ _ e
    by g (ways.moves w T c fills m e) y z = let q : ◌≡◌ {A = ℕ} 0 1 = cc in absurd (omega arith)

    go : (o : Outcome) (g : GrowOutcome) → Begun l k v o g → g.said ≡ refused n x → g.moves ≡ [] → Unchanged g.used
    go o g (checked m w e q) y z = at g m 0 _ q
    go o g (past a b d e q) y z =
        rw q
        (by _ (round_way l.C l.null l.hash_of l.clear (l.hash_of k) k v (suc sizes) (start l) (passed_c l a f)) (rw q at y) (rw q at z))

-- ---- the two halves by their roles

module _ (C : ℕ) (u spare : Became) (l u' : List ℕ) where
  used_words_lem : (h : rule.Half) → of_half h (words_become C (lower_of h u spare) l) (words_become C (upper_of h u spare) u') ≡ words_become C u (of_half h l u')
  used_words_lem rule.lower = refl
  used_words_lem rule.upper = refl

  used_deltas_lem : (h : rule.Half) → of_half h (deltas_become C (lower_of h u spare) l) (deltas_become C (upper_of h u spare) u') ≡ deltas_become C u (of_half h l u')
  used_deltas_lem rule.lower = refl
  used_deltas_lem rule.upper = refl

  other_words : (h : rule.Half) → of_half (other_half h) (words_become C (lower_of h u spare) l) (words_become C (upper_of h u spare) u') ≡ words_become C spare (of_half (other_half h) l u')
  other_words rule.lower = refl
  other_words rule.upper = refl

  other_deltas : (h : rule.Half) → of_half (other_half h) (deltas_become C (lower_of h u spare) l) (deltas_become C (upper_of h u spare) u') ≡ deltas_become C spare (of_half (other_half h) l u')
  other_deltas rule.lower = refl
  other_deltas rule.upper = refl

module _ (s : Four) (g : Growing) (k v : ℕ) (r : GrowAnswer) (s' : Four) (m : Meets s g k v r s') where
  abbrev o : GrowOutcome
  o = ruled s g k v

  abbrev C : ℕ
  C = size_in s.lower_deltas

  -- what became of the half in use at the end, and of the other one
  words_in_use : words_of o.half s' ≡ words_become C o.used (words_of o.half s)
  words_in_use =
      (λ i. of_half o.half (lower_words_is s g k v r s' m i) (upper_words_is s g k v r s' m i)) ∙ used_words_lem C o.used o.spare s.lower_words s.upper_words o.half

  deltas_in_use : deltas_of o.half s' ≡ deltas_become C o.used (deltas_of o.half s)
  deltas_in_use =
      (λ i. of_half o.half (lower_deltas_is s g k v r s' m i) (upper_deltas_is s g k v r s' m i)) ∙ used_deltas_lem C o.used o.spare s.lower_deltas s.upper_deltas o.half

  spare_words_become : words_of (other_half o.half) s' ≡ words_become C o.spare (words_of (other_half o.half) s)
  spare_words_become =
      (λ i. of_half (other_half o.half) (lower_words_is s g k v r s' m i) (upper_words_is s g k v r s' m i)) ∙ other_words C o.used o.spare s.lower_words s.upper_words o.half

  spare_deltas_become : deltas_of (other_half o.half) s' ≡ deltas_become C o.spare (deltas_of (other_half o.half) s)
  spare_deltas_become =
      (λ i. of_half (other_half o.half) (lower_deltas_is s g k v r s' m i) (upper_deltas_is s g k v r s' m i)) ∙ other_deltas C o.used o.spare s.lower_deltas s.upper_deltas o.half

  -- the record handed back is the one that was lent, where the rule's is
  same_record : o.counts.live ≡ g.table.live → o.size ≡ g.size → o.half ≡ half_of g.half → r.growing ≡ g
  same_record a b c =
      let h : r.growing.half ≡ g.half = sym (half_back r.growing.half) ∙ ap unhalf (half_is s g k v r s' m ∙ c) ∙ half_back g.half in
      let n : r.growing.table.live ≡ g.table.live = ap (λ (x : Counts). x.live) (counts_is s g k v r s' m) ∙ a in
      let z = size_is s g k v r s' m ∙ b in
      λ i. record { table = record { hasher = hasher_is s g k v r s' m i; live = n i }; size = z i; half = h i }

  -- both halves stayed
  all_left : o.used ≡ stays [] → o.spare ≡ stays [] → s' ≡ s
  all_left a b =
      let lw = lower_words_is s g k v r s' m ∙ ap (λ (y : Became). words_become C y s.lower_words) ((λ i. lower_of o.half (a i) (b i)) ∙ same_lower o.half (stays [])) in
      let ld = lower_deltas_is s g k v r s' m ∙ ap (λ (y : Became). deltas_become C y s.lower_deltas) ((λ i. lower_of o.half (a i) (b i)) ∙ same_lower o.half (stays [])) in
      let uw = upper_words_is s g k v r s' m ∙ ap (λ (y : Became). words_become C y s.upper_words) ((λ i. upper_of o.half (a i) (b i)) ∙ same_upper o.half (stays [])) in
      let ud = upper_deltas_is s g k v r s' m ∙ ap (λ (y : Became). deltas_become C y s.upper_deltas) ((λ i. upper_of o.half (a i) (b i)) ∙ same_upper o.half (stays [])) in
      λ i. record { lower_words = lw i; lower_deltas = ld i; upper_words = uw i; upper_deltas = ud i }

  -- ---- refusals

  -- a refusal under 1, 2 or 3 leaves all: the four slices and the record, with nothing looked at and no move
  pub checked_leaves_all : (n : ℕ) (x : List ℕ) → n ≤ 3 → grow_said r.said ≡ refused n x → (s' ≡ s) × (r.growing ≡ g) × (r.looked ≡ 0) × (r.moves ≡ 0)
  checked_leaves_all n x u e =
      let q = checked_leaves (lent_on s g) (lent_halves_lem s g) k v n x u (sym (said_is s g k v r s' m) ∙ e) in (
        all_left (ap (λ (y : GrowOutcome). y.used) q) (ap (λ (y : GrowOutcome). y.spare) q),
        same_record (ap (λ (y : GrowOutcome). y.counts.live) q) (ap (λ (y : GrowOutcome). y.size) q) (ap (λ (y : GrowOutcome). y.half) q),
        looked_is s g k v r s' m ∙ ap (λ (y : GrowOutcome). y.looked) q,
        moves_is s g k v r s' m ∙ ap (λ (y : GrowOutcome). length y.moves) q,
      )

  -- any refusal with no move leaves the half in use and the record
  pub refused_leaves_table : (n : ℕ) (x : List ℕ) → grow_said r.said ≡ refused n x → r.moves ≡ 0
      → (words_of (half_of g.half) s' ≡ words_of (half_of g.half) s) × (deltas_of (half_of g.half) s' ≡ deltas_of (half_of g.half) s) × (r.growing ≡ g)
  refused_leaves_table n x e z =
      let y = sym (said_is s g k v r s' m) ∙ e in
      let none = none_made o.moves (sym (moves_is s g k v r s' m) ∙ z) in
      let t = refused_leaves (lent_on s g) (lent_halves_lem s g) k v n x y none in
      let c = refused_unchanged (lent_on s g) (lent_halves_lem s g) k v n x y none in (
        rw t.half at (words_in_use ∙ c.words C (words_of o.half s)),
        rw t.half at (deltas_in_use ∙ c.deltas C (deltas_of o.half s)),
        same_record (ap (λ (y : Counts). y.live) t.counts) t.size t.half,
      )

  -- so Broken leaves them
  pub broken_leaves_table : r.said ≡ Err errors.Broken
      → (words_of (half_of g.half) s' ≡ words_of (half_of g.half) s) × (deltas_of (half_of g.half) s' ≡ deltas_of (half_of g.half) s) × (r.growing ≡ g)
  broken_leaves_table e = refused_leaves_table 5 [] (ap grow_said e) (answer_5_unmoved s g k v r s' m e)

  -- ---- the spare half

  -- "With no Full the spare half is not touched": its two slices are as they were, and the table stays in its half, of its size
  pub no_full_leaves_spare : (IsFull (first_insert s g k v).said → ⊥)
      → (words_of (other_half (half_of g.half)) s' ≡ words_of (other_half (half_of g.half)) s)
      × (deltas_of (other_half (half_of g.half)) s' ≡ deltas_of (other_half (half_of g.half)) s)
      × (r.growing.half ≡ g.half)
      × (r.growing.size ≡ g.size)
      × (r.moves ≡ 0)
  no_full_leaves_spare n =
      let a = no_full_as_insert (lent_on s g) k v n in (
        rw (a.half, a.spare) at spare_words_become,
        rw (a.half, a.spare) at spare_deltas_become,
        sym (half_back r.growing.half) ∙ ap unhalf (half_is s g k v r s' m ∙ a.half) ∙ half_back g.half,
        size_is s g k v r s' m ∙ a.size,
        moves_is s g k v r s' m ∙ ap length a.moves,
      )

  module _ (full : IsFull (first_insert s g k v).said) where
    -- "A size above C is not tried: NoRoom": with no try all is left
    pub untried_leaves_all : size_in s.lower_deltas < first_try (lent_on s g) k v → (r.said ≡ Err errors.NoRoom) × (s' ≡ s) × (r.growing ≡ g) × (r.moves ≡ 0)
    untried_leaves_all u =
        let q = untried_leaves (lent_on s g) (lent_halves_lem s g) k v full u in (
          no_room_said r.said [] (said_is s g k v r s' m ∙ ap (λ (y : GrowOutcome). y.said) q),
          all_left (ap (λ (y : GrowOutcome). y.used) q) (ap (λ (y : GrowOutcome). y.spare) q),
          same_record (ap (λ (y : GrowOutcome). y.counts.live) q) (ap (λ (y : GrowOutcome). y.size) q) (ap (λ (y : GrowOutcome). y.half) q),
          moves_is s g k v r s' m ∙ ap (λ (y : GrowOutcome). length y.moves) q,
        )

    -- after any try the half that is not in use at the end is clear, whatever the answer
    pub tried_leaves_spare_clear : first_try (lent_on s g) k v ≤ size_in s.lower_deltas
        → (words_of (other_half (half_of r.growing.half)) s' ≡ fresh_words (size_in s.lower_deltas))
        × (deltas_of (other_half (half_of r.growing.half)) s' ≡ fresh_deltas (size_in s.lower_deltas))
    tried_leaves_spare_clear u =
        let q = tried_clears (lent_on s g) (lent_halves_lem s g) k v full u in (
          rw (half_is s g k v r s' m) (spare_words_become ∙ ap (λ (y : Became). words_become C y (words_of (other_half o.half) s)) q),
          rw (half_is s g k v r s' m) (spare_deltas_become ∙ ap (λ (y : Became). deltas_become C y (deltas_of (other_half o.half) s)) q),
        )
