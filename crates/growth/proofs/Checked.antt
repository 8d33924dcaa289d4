-- The growing insert by its checks. Assumes nothing.
use mathlib.Core.Bool.{true, false, ◌&&◌}
use mathlib.Core.List.{List, []}
use mathlib.Core.Path.{◌≡◌, refl, sym, ap, ◌∙◌}
use Prim.Native.Nat.{ℕ}
use Rattle.std.specs.Prelude.{Err}
use borrow.Author.Tests.{eq-eqb, ne_eqb}
use Rattle.hashers.specs.Keys.{hash_of}
use Rattle.hashers.specs.declared.Hasher.{Hasher}
use Rattle.rules.specs.Cells.{shape, offered, zero_hash}
use Rattle.rules.specs.Answers.{refused}
use Rattle.rules.specs.Moves.{stays}
use Rattle.rules.specs.Growing as rule
use Rattle.rules.specs.Growing.{LentHalves, in_use, GrowOutcome, refused_at, start, rounds, most_rounds, grow}
use Rattle.cells.specs.Layout.{null, size_in, counts_of}
use Rattle.parts.specs.Halves.{half_of, are_halves, record_fits, lent_halves}
use Rattle.parts.specs.declared.Half.{Half}
use Rattle.parts.specs.declared.Half.TheVariants.{Lower, Upper}
use Rattle.parts.specs.declared.Growing.{Growing}
use Rattle.parts.proofs.Checks.{Halves, Fits, passed, shape_passes, shape_fails}
use Rattle.growth.specs.Rounds.{Sides}
use Rattle.growth.specs.Growth.{GrownLeft, grow_failed, grew_from, rounds_on, grown_by, grow_left}
use Rattle.growth.specs.declared.GrowError.{GrowError}
use Rattle.growth.specs.declared.GrowError.TheVariants as errors

-- ---- the rule's branches

module _ (l : LentHalves) (k v : ℕ) where
  grow_1 : shape (in_use l) ≡ 1 → grow l k v ≡ refused_at (start l) 1 0 (stays [])
  unfolding grow
  grow_1 a = rw a

  grow_3 : shape (in_use l) ≡ 0 → offered l.null v ≡ 3 → grow l k v ≡ refused_at (start l) 3 0 (stays [])
  unfolding grow
  grow_3 a b = rw (a, b)

  grow_2 : shape (in_use l) ≡ 0 → offered l.null v ≡ 0 → zero_hash (l.hash_of k) ≡ 2 → grow l k v ≡ refused_at (start l) 2 0 (stays [])
  unfolding grow
  grow_2 a b c = rw (a, b, c)

  grow_past : shape (in_use l) ≡ 0 → offered l.null v ≡ 0 → zero_hash (l.hash_of k) ≡ 0
      → grow l k v ≡ rounds l.C l.null l.hash_of l.clear (l.hash_of k) k v most_rounds (start l)
  unfolding grow
  grow_past a b c = rw (a, b, c)

-- ---- on the slices

module _ (lws lds uws uds : List ℕ) (g : Growing) (k v : ℕ) where
  abbrev lent_now : LentHalves
  lent_now = lent_halves lws lds uws uds g

  -- the halves hold the table that the record names
  pub sided : are_halves lws lds uws uds && record_fits (size_in lds) g ≡ true → Sides (half_of g.half) lws lds uws uds (size_in lds) g.size
  sided e = go g.half
    where
      p : Halves (size_in lds) lws lds uws uds × Fits (size_in lds) g
      p = passed lws lds uws uds g e

      go : (h : Half) → Sides (half_of h) lws lds uws uds (size_in lds) g.size
      go Lower =
          record {
            size = p.1.size;
            most = p.1.most;
            cells_size = p.0.size;
            words = p.0.lower_words_length;
            deltas = p.0.lower_deltas_length;
            spare_words_length = p.0.upper_words_length;
            spare_deltas_length = p.0.upper_deltas_length;
          }
      go Upper =
          record {
            size = p.1.size;
            most = p.1.most;
            cells_size = p.0.size;
            words = p.0.upper_words_length;
            deltas = p.0.upper_deltas_length;
            spare_words_length = p.0.lower_words_length;
            spare_deltas_length = p.0.lower_deltas_length;
          }

  -- a refusal leaves all
  refusal : (n : ℕ) (s : GrowError) → grow_failed s ≡ refused n []
      → grown_by (record { said = Err s; looked = 0; moves = 0; growing = g }) lws lds uws uds ≡ grow_left (refused_at (start lent_now) n 0 (stays [])) g lws lds uws uds
  unfolding grew_from
  refusal n s e = go g.half refl
    where
      go : (h : Half) → g.half ≡ h → grown_by (record { said = Err s; looked = 0; moves = 0; growing = g }) lws lds uws uds ≡ grow_left (refused_at (start lent_now) n 0 (stays [])) g lws lds uws uds
      go Lower q =
          rw q
          (λ i. record {
            grown =
                record {
                  said = e i;
                  looked = 0;
                  moves = 0;
                  counts = counts_of g.table.live;
                  size = g.size;
                  half = rule.lower;
                  lower_words = lws;
                  lower_deltas = lds;
                  upper_words = uws;
                  upper_deltas = uds;
                };
            hasher = g.table.hasher;
          })
      go Upper q =
          rw q
          (λ i. record {
            grown =
                record {
                  said = e i;
                  looked = 0;
                  moves = 0;
                  counts = counts_of g.table.live;
                  size = g.size;
                  half = rule.upper;
                  lower_words = lws;
                  lower_deltas = lds;
                  upper_words = uws;
                  upper_deltas = uds;
                };
            hasher = g.table.hasher;
          })

  abbrev Refused : GrowError → Type 0
  Refused s = grown_by (record { said = Err s; looked = 0; moves = 0; growing = g }) lws lds uws uds ≡ grow_left (grow lent_now k v) g lws lds uws uds

  pub refused_1 : are_halves lws lds uws uds && record_fits (size_in lds) g ≡ false
      → grown_by (record { said = Err errors.Shape; looked = 0; moves = 0; growing = g }) lws lds uws uds ≡ grow_left (grow (lent_halves lws lds uws uds g) k v) g lws lds uws uds
  refused_1 e = refusal 1 errors.Shape refl ∙ sym (ap (λ (o : GrowOutcome). grow_left o g lws lds uws uds) (grow_1 lent_now k v (shape_fails lws lds uws uds g e)))

  module _ (e : are_halves lws lds uws uds && record_fits (size_in lds) g ≡ true) where
    pub refused_3 : offered null v ≡ 3
        → grown_by (record { said = Err errors.Null; looked = 0; moves = 0; growing = g }) lws lds uws uds ≡ grow_left (grow (lent_halves lws lds uws uds g) k v) g lws lds uws uds
    refused_3 b = refusal 3 errors.Null refl ∙ sym (ap (λ (o : GrowOutcome). grow_left o g lws lds uws uds) (grow_3 lent_now k v (shape_passes lws lds uws uds g e) b))

    module _ (b : offered null v ≡ 0) (h : ℕ) (q : h ≡ hash_of g.table.hasher k) where
      pub refused_2 : h ≡ 0
          → grown_by (record { said = Err errors.ZeroHash; looked = 0; moves = 0; growing = g }) lws lds uws uds ≡ grow_left (grow (lent_halves lws lds uws uds g) k v) g lws lds uws uds
      refused_2 z =
          let y : zero_hash (hash_of g.table.hasher k) ≡ 2 = rw (eq-eqb (hash_of g.table.hasher k) 0 (sym q ∙ z)) in
          refusal 2 errors.ZeroHash refl ∙ sym (ap (λ (o : GrowOutcome). grow_left o g lws lds uws uds) (grow_2 lent_now k v (shape_passes lws lds uws uds g e) b y))

      -- past the checks the rounds decide
      pub grows : (h ≡ 0 → ⊥) → (r : GrownLeft)
          → ((hasher : Hasher) → r ≡ record { grown = grew_from (size_in lds) (rounds_on (size_in lds) hasher g.size (half_of g.half) g.table.live h k v lws lds uws uds) lws lds uws uds; hasher = g.table.hasher })
          → r ≡ grow_left (grow (lent_halves lws lds uws uds g) k v) g lws lds uws uds
      unfolding rounds_on
      grows z r x =
          let y : zero_hash (hash_of g.table.hasher k) ≡ 0 = rw (ne_eqb (hash_of g.table.hasher k) 0 (λ u. z (q ∙ u))) in
          x g.table.hasher
          ∙ ap (λ (n : ℕ). record { grown = grew_from (size_in lds) (rounds_on (size_in lds) g.table.hasher g.size (half_of g.half) g.table.live n k v lws lds uws uds) lws lds uws uds; hasher = g.table.hasher }) q
          ∙ sym (ap (λ (o : GrowOutcome). grow_left o g lws lds uws uds) (grow_past lent_now k v (shape_passes lws lds uws uds g e) b y))
