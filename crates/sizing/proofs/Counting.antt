-- One turn of a sample. Assumes nothing.
use Rattle.std.proofs.Common.{◌≡◌, ℕ, ◌+◌, ◌*◌, ◌%◌, ◌^◌, ◌<◌, ◌≤◌, Bool, true, false, List, refl, ap, ◌∙◌, add-one, arith}
use Rattle.rules.specs.Sizes.{is_size}
use Rattle.rules.specs.Walk.{on}
use Rattle.rules.specs.Sound.{one, count}
use Rattle.rules.specs.Growth.{sampled, sample_start}
use Rattle.cells.specs.Layout.{live_in}
use Rattle.cells.proofs.Shapes.{cell_lt}

-- the first i positions were looked at: n of them have a live cell
pub record Counting (ws : List ℕ) (S carried start n i : ℕ) : Type 0 where
  pub from : start ≡ sample_start carried
  pub counted : n ≡ count (λ j. live_in ws (on (sample_start carried) j % S)) i
  pub most : n ≤ i
  pub within : i ≤ sampled

-- what a wrapping subtraction says of its result
back : (r a : ℕ) → r < 2 ^ 64 → a < 2 ^ 64 → (r + sampled) % 2 ^ 64 ≡ a → r ≡ sample_start a
back r a hr ha e = omega arith

pub counting_start : (ws : List ℕ) (S carried start : ℕ) → start < 2 ^ 64 → carried < 2 ^ 64 → (start + sampled) % 2 ^ 64 ≡ carried → Counting ws S carried start 0 0
unfolding count
counting_start ws S carried start a b e = record { from = back start carried a b e; counted = refl; most = omega arith; within = omega arith }

-- a position's cell lies within so many words
pub cell_in : (n S at cell : ℕ) → is_size S ≡ true → 3 * S ≤ n → cell ≡ at % S → 3 * cell + 2 < n
cell_in n S at cell s l e = omega (arith, cell_lt S at cell s e)

module _ {ws : List ℕ} {S carried start n i : ℕ} (c : Counting ws S carried start n i) where
  abbrev test : ℕ → Bool
  test j = live_in ws (on (sample_start carried) j % S)

  more : count test (i + 1) ≡ one (test i) + count test i
  unfolding count
  more = ap (count test) (add-one i)

  module _ (l : i < sampled) {at cell : ℕ} {b : Bool} (a : at ≡ (start + i) % 2 ^ 64) (e : cell ≡ at % S) (q : b ≡ live_in ws cell) where
    tested : b ≡ test i
    tested = q ∙ ap (live_in ws) (e ∙ ap (λ (x : ℕ). x % S) (a ∙ ap (λ (x : ℕ). (x + i) % 2 ^ 64) c.from))

    stepped : (d n' : ℕ) → one b ≡ d → n' ≡ n + d → d ≤ 1 → Counting ws S carried start n' (i + 1)
    stepped d n' o p h =
        record {
          from = c.from;
          counted = omega (arith, more, ap one tested, c.counted);
          most = omega (arith, c.most);
          within = omega arith;
        }

    pub counting_live : b ≡ true → {n' : ℕ} → n' ≡ n + 1 → Counting ws S carried start n' (i + 1)
    counting_live t {n'} p = stepped 1 n' (ap one t) p (omega arith)

    pub counting_not : b ≡ false → {n' : ℕ} → n' ≡ n → Counting ws S carried start n' (i + 1)
    counting_not t {n'} p = stepped 0 n' (ap one t) (omega arith) (omega arith)

  pub counting_end : sampled ≤ i → n ≡ count test sampled
  counting_end l = let e : i ≡ sampled = omega (arith, c.within) in c.counted ∙ ap (count test) e
