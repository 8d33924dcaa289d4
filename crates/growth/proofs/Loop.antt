-- What the loop of the growing insert keeps, whatever the hasher. Assumes nothing.
use mathlib.Core.Bool.{true}
use mathlib.Core.List.{List}
use mathlib.Core.Path.{◌≡◌, refl, sym, ap, subst, ◌∙◌}
use Prim.Native.Nat.{ℕ, ◌+◌, ◌<◌}
use Rattle.std.specs.Prelude.{Result}
use lib.ListN.{length}
use Rattle.hashers.specs.declared.Hasher.{Hasher}
use Rattle.hashers.specs.declared.Hasher.TheVariants.{Simple}
use Rattle.rules.specs.Sizes.{is_size}
use Rattle.rules.specs.Growing as rule
use Rattle.rules.specs.Growing.{other_half, most_rounds}
use Rattle.growth.specs.Rounds.{Sides, TurnedOn, answered, turn_sides, round_end}
use Rattle.growth.specs.Growth.{grow_said, grew_from, rounds_on}
use Rattle.cells.specs.declared.insert.InsertSaid.{InsertSaid}
use Rattle.growth.specs.declared.GrowError.{GrowError}
use Rattle.growth.specs.declared.RoundEnd.{RoundEnd}
use Rattle.growth.specs.declared.RoundEnd.TheVariants as ends
use Rattle.growth.proofs.Still.{Moves, turn_said}
use Rattle.growth.proofs.Going.{Going}
use Rattle.growth.proofs.Sides.{begin, one_left, finish, onward}

pub record Turning (cells h k v live size₀ : ℕ) (half₀ : rule.Half) (lws₀ lds₀ uws₀ uds₀ : List ℕ) (half : rule.Half) (size count : ℕ)
    (lws lds uws uds : List ℕ) : Type 0 where
  pub going : (hasher : Hasher)
      → Going cells hasher h k v live (rounds_on cells hasher size₀ half₀ live h k v lws₀ lds₀ uws₀ uds₀) lws₀ lds₀ uws₀ uds₀ half size count lws lds uws uds
  pub lower_words_length : length lws ≡ length lws₀
  pub lower_deltas_length : length lds ≡ length lds₀
  pub upper_words_length : length uws ≡ length uws₀
  pub upper_deltas_length : length uds ≡ length uds₀

-- the halves have an allowed number of cells
pub cells_sized : (half : rule.Half) (lws lds uws uds : List ℕ) (cells size : ℕ) → Sides half lws lds uws uds cells size → is_size cells ≡ true
cells_sized rule.lower lws lds uws uds cells size q = q.cells_size
cells_sized rule.upper lws lds uws uds cells size q = q.cells_size

module _ (cells h k v live size₀ : ℕ) (half₀ : rule.Half) (lws₀ lds₀ uws₀ uds₀ : List ℕ) where
  pub turning : Sides half₀ lws₀ lds₀ uws₀ uds₀ cells size₀ → Turning cells h k v live size₀ half₀ lws₀ lds₀ uws₀ uds₀ half₀ size₀ 0 lws₀ lds₀ uws₀ uds₀
  turning q =
      record {
        going = λ hasher. begin cells hasher h k v live size₀ half₀ lws₀ lds₀ uws₀ uds₀ (cells_sized half₀ lws₀ lds₀ uws₀ uds₀ cells size₀ q) q;
        lower_words_length = refl;
        lower_deltas_length = refl;
        upper_words_length = refl;
        upper_deltas_length = refl;
      }

  module _ (half : rule.Half) (size count : ℕ) (lws lds uws uds : List ℕ)
      (t : Turning cells h k v live size₀ half₀ lws₀ lds₀ uws₀ uds₀ half size count lws lds uws uds) where
    abbrev whole : Hasher → rule.GrowOutcome
    whole hasher = rounds_on cells hasher size₀ half₀ live h k v lws₀ lds₀ uws₀ uds₀

    pub sides : Sides half lws lds uws uds cells size
    sides = (t.going Simple).sides

    pub few : count < most_rounds
    few = one_left cells Simple h k v live (whole Simple) lws₀ lds₀ uws₀ uds₀ size count lws lds uws uds half (t.going Simple)

    module _ (x : TurnedOn) (r : RoundEnd) (same_end : x.end ≡ round_end r) (e : (hasher : Hasher) → x ≡ turn_sides half cells hasher size live h k v lws lds uws uds) where
      -- a round that does not move ends the call with its answer
      pub stops : (s : Result InsertSaid GrowError) → r ≡ ends.Answered s → (hasher : Hasher)
          → record {
            said = grow_said s;
            looked = x.looked;
            moves = count;
            counts = x.counts;
            size = size;
            half = half;
            lower_words = x.words;
            lower_deltas = x.deltas;
            upper_words = x.spare_words;
            upper_deltas = x.spare_deltas;
          }
          ≡ grew_from cells (rounds_on cells hasher size₀ half₀ live h k v lws₀ lds₀ uws₀ uds₀) lws₀ lds₀ uws₀ uds₀
      stops s q hasher =
          let w : answered (grow_said s) ≡ x.end = sym (same_end ∙ ap round_end q) in
          (λ i. record {
            said = turn_said (w i);
            looked = x.looked;
            moves = count;
            counts = x.counts;
            size = size;
            half = half;
            lower_words = x.words;
            lower_deltas = x.deltas;
            upper_words = x.spare_words;
            upper_deltas = x.spare_deltas;
          })
          ∙ finish cells hasher h k v live (whole hasher) lws₀ lds₀ uws₀ uds₀ size count lws lds uws uds half (t.going hasher) x (e hasher) (λ m. subst Moves (sym w) m)

      -- a move is followed by another round
      pub goes_on : (T : ℕ) → r ≡ ends.Moved T → length x.words ≡ length lws → length x.deltas ≡ length lds → length x.spare_words ≡ length uws
          → length x.spare_deltas ≡ length uds → (half' : rule.Half) → half' ≡ other_half half
          → Turning cells h k v live size₀ half₀ lws₀ lds₀ uws₀ uds₀ half' T (count + 1) x.words x.deltas x.spare_words x.spare_deltas
      goes_on T q lw ld uw ud half' y =
          rw y
          (record {
            going = λ hasher.
                onward cells hasher h k v live (whole hasher) lws₀ lds₀ uws₀ uds₀ size count lws lds uws uds half (t.going hasher) x (e hasher) T (same_end ∙ ap round_end q);
            lower_words_length = lw ∙ t.lower_words_length;
            lower_deltas_length = ld ∙ t.lower_deltas_length;
            upper_words_length = uw ∙ t.upper_words_length;
            upper_deltas_length = ud ∙ t.upper_deltas_length;
          })
