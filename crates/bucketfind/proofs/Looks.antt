-- One look at the bucket of a position, and what each way out of the walk's loop answers. Assumes nothing.
use Rattle.std.proofs.Common.{◌≡◌, ℕ, ◌+◌, ◌*◌, ◌%◌, Bool, true, false, List, [], length, sym, refl, ap, ◌∙◌, arith}
use native.Mathlib.Nat.{mod-mod_of_dvd, dvd_of_mod-eq-zero, mul-mod_right}
use Rattle.rules.specs.Sizes.{is_size}
use Rattle.rules.specs.Cells.{holds}
use Rattle.rules.specs.Walk.{on, met, tail, broken, walk}
use Rattle.rules.specs.Answers.{absent, refused, Answer}
use Rattle.rules.specs.Calls.{find_in}
use Rattle.steps.specs.Steps.{Ends}
use Rattle.steps.proofs.Sizes.{size_least}
use Rattle.steps.proofs.Walking.{Going, home_met, going_start, going_tail, going_broken, going_met, going_link}
use Rattle.steps.proofs.Branches.{find_ends}
use Rattle.cells.specs.Layout.{null}
use Rattle.buckets.specs.Buckets.{delta_in, cell_in}
use Rattle.buckets.specs.declared.Bucket.{Bucket}
use Rattle.bucketfind.specs.Slice.{size_of, cells_in, values_in, bucket_of, holds_in, met_with}

-- a position's cell within its bucket
pub slot : (p n : ℕ) → p % (4 * n) % 4 ≡ p % 4
slot p n = mod-mod_of_dvd 4 p (dvd_of_mod-eq-zero 4 (mul-mod_right 4 n))

module _ (bs : List Bucket) (p : ℕ) (k : Bucket) (e : k ≡ bucket_of bs p) where
  look_holds : (h c : ℕ) → holds (cells_in bs) (p % size_of bs) h c ≡ holds_in k (p % 4) h c
  look_holds h c = rw (e, slot p (length bs))

  look_value : (cell_in k (p % 4)).value ≡ values_in bs (p % size_of bs)
  look_value = rw e (ap (λ (j : ℕ). (cell_in (bucket_of bs p) j).value) (sym (slot p (length bs))))

  look_first : delta_in k (p % 4) ≡ (cells_in bs).first (p % size_of bs)
  look_first = rw (e, slot p (length bs))

  look_second : delta_in k (p % 4 + 4) ≡ (cells_in bs).second (p % size_of bs)
  look_second = rw (e, slot p (length bs))

module _ (bs : List Bucket) (h c : ℕ) where
  -- the walk from the hash h for the key c over these buckets has gone so far
  abbrev pub Gone : (p n d : ℕ) → Type 0
  Gone p n d = Going (size_of bs) (cells_in bs) h c p n d

  abbrev pub found : Answer
  found = find_in (size_of bs) null (cells_in bs) (values_in bs) h c

  -- met at position p
  met_found : (p n : ℕ) (k : Bucket) (a : Answer) → k ≡ bucket_of bs p → Ends (met p) n (walk (size_of bs) (cells_in bs) h c) → a ≡ met_with (cell_in k (p % 4)).value n → a ≡ found
  met_found p n k a e w f = f ∙ ap (λ (v : ℕ). met_with v n) (look_value bs p k e) ∙ find_ends (size_of bs) null (cells_in bs) (values_in bs) h c w (met p) refl

  -- ---- at the home
  module _ (k : Bucket) (t : Bool) (e : k ≡ bucket_of bs h) (f : t ≡ holds_in k (h % 4) h c) where
    pub home_found : (a : Answer) → t ≡ true → a ≡ met_with (cell_in k (h % 4)).value 1 → a ≡ found
    home_found a y g = met_found h 1 k a e (home_met (size_of bs) (cells_in bs) h c (h % size_of bs) refl (look_holds bs h k e h c ∙ sym f ∙ y)) g

    pub home_goes : is_size (size_of bs) ≡ true → (d : ℕ) → t ≡ false → d ≡ delta_in k (h % 4) → Gone h 1 d
    home_goes s d y g =
        let l = size_least (size_of bs) s in
        going_start (size_of bs) (cells_in bs) h c (omega arith) (h % size_of bs) d refl (look_holds bs h k e h c ∙ sym f ∙ y) (g ∙ look_first bs h k e)

  -- ---- in the loop
  module _ (p n d : ℕ) (g : Gone p n d) where
    pub tail_found : (a : Answer) → d ≡ 0 → a ≡ record { said = absent; looked = n } → a ≡ found
    tail_found a z f = f ∙ find_ends (size_of bs) null (cells_in bs) (values_in bs) h c (going_tail (size_of bs) (cells_in bs) h c p n d g z) (tail p) refl

    module _ (z : d ≡ 0 → ⊥) where
      pub broken_found : (a : Answer) → n ≡ size_of bs → a ≡ record { said = refused 5 []; looked = n } → a ≡ found
      broken_found a m f = f ∙ find_ends (size_of bs) null (cells_in bs) (values_in bs) h c (going_broken (size_of bs) (cells_in bs) h c p n d g z m) broken refl

      -- a link on, at position q
      module _ (m : n ≡ size_of bs → ⊥) (q : ℕ) (k : Bucket) (t : Bool) (eq : q ≡ on p d) (e : k ≡ bucket_of bs q) (f : t ≡ holds_in k (q % 4) h c) where
        pub link_found : (a : Answer) → t ≡ true → a ≡ met_with (cell_in k (q % 4)).value (n + 1) → a ≡ found
        link_found a y u =
            met_found q (n + 1) k a e (going_met (size_of bs) (cells_in bs) h c p n d g z m q (q % size_of bs) eq refl (look_holds bs q k e h c ∙ sym f ∙ y)) u

        pub link_goes : (d' : ℕ) → t ≡ false → d' ≡ delta_in k (q % 4 + 4) → Gone q (n + 1) d'
        link_goes d' y u = going_link (size_of bs) (cells_in bs) h c p n d g z m q (q % size_of bs) eq refl d' (look_holds bs q k e h c ∙ sym f ∙ y) (u ∙ look_second bs q k e)
