-- What the rounds of a growing insert keep from turn to turn. Assumes nothing.
use mathlib.Core.Bool.{true}
use mathlib.Core.List.{List, []}
use mathlib.Core.Path.{◌≡◌, refl, sym, ap, subst, ◌∙◌}
use Prim.Native.Nat.{ℕ, suc, ◌+◌, ◌*◌, ◌≤◌}
use native.Mathlib.Nat.{add-zero}
use native.Mathlib.Omega.{arith}
use lib.ListN.{length, length-replicate}
use Rattle.hashers.specs.Keys.{hash_of}
use Rattle.hashers.specs.declared.Hasher.{Hasher}
use Rattle.rules.specs.Sizes.{is_size}
use Rattle.rules.specs.Cells.{Counts}
use Rattle.rules.specs.Answers.{Change}
use Rattle.rules.specs.Moves.{Became, cleared, held_after_all}
use Rattle.rules.specs.Growing as rule
use Rattle.rules.specs.Growing.{Round, GrowOutcome, with_move, round_after, other_half, most_rounds}
use Rattle.steps.proofs.Sizes.{size_least}
use Rattle.cells.proofs.Clearing.{fresh_length}
use Rattle.cells.specs.Layout.{null, counts_of, fresh_words, fresh_deltas}
use Rattle.moving.specs.Slices.{held_in, clear_held, words_after_all, deltas_after_all, words_become, deltas_become}
use Rattle.moving.proofs.Held.{held_changed_all, move_within, words_kept_all, deltas_kept_all, fresh_shaped}
use Rattle.parts.specs.Halves.{of_half}
use Rattle.laws.specs.Full.{IsFull}
use Rattle.growthlaws.specs.Tries.{MovedInto}
use Rattle.growthlaws.specs.Rounds.{Enough}
use Rattle.growthlaws.proofs.Rounds.{enough_next, move_sized}
use Rattle.growth.specs.Rounds as turns
use Rattle.growth.specs.Rounds.{Halved, Sides, TurnedOn}
use Rattle.growth.specs.Growth.{Grown, lower_of, upper_of, grew_from}
use Rattle.growth.proofs.Turns.{round_at, rounds_from, inserted, first}
use Rattle.movelaws.proofs.Moved.{moved_live}
use Rattle.movelaws.proofs.Fresh.{fresh_clear}
use Rattle.growth.proofs.Still.{Ends, turn_said}

-- so many moves before
abbrev pub moved_on : ℕ → Grown → Grown
moved_on n g =
    record {
      said = g.said;
      looked = g.looked;
      moves = n + g.moves;
      counts = g.counts;
      size = g.size;
      half = g.half;
      lower_words = g.lower_words;
      lower_deltas = g.lower_deltas;
      upper_words = g.upper_words;
      upper_deltas = g.upper_deltas;
    }

-- the rounds left give the same outcome; what became of the halves is what stands there
pub record Going (cells : ℕ) (hasher : Hasher) (h k v live : ℕ) (whole : GrowOutcome) (lws₀ lds₀ uws₀ uds₀ : List ℕ) (half : rule.Half) (size count : ℕ)
    (lws lds uws uds : List ℕ) : Type 0 where
  pub left : ℕ
  pub used : Became
  pub spare : Became
  pub lower_words_become : lws ≡ words_become cells (lower_of half used spare) lws₀
  pub lower_deltas_become : lds ≡ deltas_become cells (lower_of half used spare) lds₀
  pub upper_words_become : uws ≡ words_become cells (upper_of half used spare) uws₀
  pub upper_deltas_become : uds ≡ deltas_become cells (upper_of half used spare) uds₀
  pub same : grew_from cells whole lws₀ lds₀ uws₀ uds₀
      ≡ moved_on count (grew_from cells (rounds_from cells hasher h k v left (round_at size half live (of_half half lws uws) (of_half half lds uds) used spare)) lws₀ lds₀ uws₀ uds₀)
  pub sides : Sides half lws lds uws uds cells size
  pub enough : Enough cells null (hash_of hasher) (round_at size half live (of_half half lws uws) (of_half half lds uds) used spare) left
  pub most : count + left ≤ most_rounds

-- ---- a round that ends the call

module _ (cells : ℕ) (lws₀ lds₀ uws₀ uds₀ : List ℕ) (count size : ℕ) where
  abbrev pub Final : rule.Half → TurnedOn → Grown
  Final half x =
      record {
        said = turn_said x.end;
        looked = x.looked;
        moves = count;
        counts = x.counts;
        size = size;
        half = half;
        lower_words = x.words;
        lower_deltas = x.deltas;
        upper_words = x.spare_words;
        upper_deltas = x.spare_deltas;
      }

  no_more : (g : GrowOutcome) → g.moves ≡ [] → count ≡ count + length g.moves
  no_more g e = sym (add-zero count) ∙ ap (λ (l : List ℕ). count + length l) (sym e)

  pub final_lower : (x : TurnedOn) (g : GrowOutcome) → Ends cells size rule.lower lws₀ lds₀ uws₀ uds₀ x g → Final rule.lower x ≡ moved_on count (grew_from cells g lws₀ lds₀ uws₀ uds₀)
  unfolding grew_from
  final_lower x g e =
      rw (sym e.same_half)
      (λ i. record {
        said = e.said i;
        looked = e.looked i;
        moves = no_more g e.no_move i;
        counts = e.counts i;
        size = e.same_size i;
        half = rule.lower;
        lower_words = e.words i;
        lower_deltas = e.deltas i;
        upper_words = e.spare_words i;
        upper_deltas = e.spare_deltas i;
      })

  pub final_upper : (x : TurnedOn) (g : GrowOutcome) → Ends cells size rule.upper uws₀ uds₀ lws₀ lds₀ x g → Final rule.upper (turns.swapped x) ≡ moved_on count (grew_from cells g lws₀ lds₀ uws₀ uds₀)
  unfolding grew_from
  final_upper x g e =
      rw (sym e.same_half)
      (λ i. record {
        said = e.said i;
        looked = e.looked i;
        moves = no_more g e.no_move i;
        counts = e.counts i;
        size = e.same_size i;
        half = rule.upper;
        lower_words = e.spare_words i;
        lower_deltas = e.spare_deltas i;
        upper_words = e.words i;
        upper_deltas = e.deltas i;
      })

-- ---- a round that moves

-- what stands after a move: the spare half holds the table, the old one is clear
pub record MovedTo (cells : ℕ) (hasher : Hasher) (h k v size live : ℕ) (ws ds : List ℕ) (left : ℕ) (half : rule.Half) (used spare : Became) (x : TurnedOn) (T : ℕ) : Type 0 where
  pub fills : List Change
  pub words : x.words ≡ fresh_words cells
  pub deltas : x.deltas ≡ fresh_deltas cells
  pub spare_words_filled : x.spare_words ≡ words_after_all fills (fresh_words cells)
  pub spare_deltas_filled : x.spare_deltas ≡ deltas_after_all fills (fresh_deltas cells)
  pub halved : Halved x.spare_words x.spare_deltas x.words x.deltas cells T
  pub rest : rounds_from cells hasher h k v (suc left) (round_at size half live ws ds used spare)
      ≡ with_move T (rounds_from cells hasher h k v left (round_at T (other_half half) live x.spare_words x.spare_deltas (cleared fills) (cleared [])))
  pub enough : Enough cells null (hash_of hasher) (round_at T (other_half half) live x.spare_words x.spare_deltas (cleared fills) (cleared [])) left

module _ (cells : ℕ) (hasher : Hasher) (h k v size live : ℕ) (ws ds sws sds : List ℕ) (left : ℕ) (half : rule.Half) (used spare : Became)
    (q : Halved ws ds sws sds cells size) (e : Enough cells null (hash_of hasher) (round_at size half live ws ds used spare) (suc left)) where
  abbrev here : Round
  here = round_at size half live ws ds used spare

  module _ (T : ℕ) (c : Counts) (fills : List Change) (f : IsFull (inserted cells hasher h k v size live ws ds).said)
      (m : MovedInto cells null size (held_in ws ds) (counts_of live) (clear_held cells) (first cells hasher h k v size live ws ds) T c fills) where
    sized : is_size T ≡ true
    sized = move_sized cells null (hash_of hasher) (clear_held cells) h k v q.cells_size here q.size T c fills m

    live_kept : c ≡ counts_of live
    live_kept =
        let l : c.live ≡ live =
        moved_live (record { S = T; null = null; hash_of = hash_of hasher }) size (held_in ws ds) (counts_of live) (clear_held cells) sized
        (fresh_clear cells T q.cells_size m.most) c m.ended in
        λ i. record { live = l i }

    held_is : held_after_all fills (clear_held cells) ≡ held_in (words_after_all fills (fresh_words cells)) (deltas_after_all fills (fresh_deltas cells))
    held_is =
        sym (held_changed_all {T = T} fills (fresh_words cells) (fresh_deltas cells) (fresh_shaped T cells sized m.most)
        (rw m.filled at (move_within null (held_in ws ds) T (omega (arith, size_least T sized)) size (counts_of live) (clear_held cells))))

    abbrev there : Round
    there = round_at T (other_half half) live (words_after_all fills (fresh_words cells)) (deltas_after_all fills (fresh_deltas cells)) (cleared fills) (cleared [])

    round_is : round_after here (clear_held cells) T c fills ≡ there
    round_is =
        λ i. record {
          size = T;
          half = other_half half;
          held = held_is i;
          counts = live_kept i;
          used = cleared fills;
          spare = cleared [];
        }

    pub moved_to : (x : TurnedOn)
        → x ≡ record {
          end = turns.moved T;
          looked = (inserted cells hasher h k v size live ws ds).looked;
          counts = counts_of live;
          words = fresh_words cells;
          deltas = fresh_deltas cells;
          spare_words = words_after_all fills (fresh_words cells);
          spare_deltas = deltas_after_all fills (fresh_deltas cells);
        }
        → rounds_from cells hasher h k v (suc left) here ≡ with_move T (rounds_from cells hasher h k v left (round_after here (clear_held cells) T c fills))
        → MovedTo cells hasher h k v size live ws ds left half used spare x T
    moved_to x a b =
        rw a
        (record {
          fills = fills;
          words = refl;
          deltas = refl;
          spare_words_filled = refl;
          spare_deltas_filled = refl;
          halved =
              record {
                size = sized;
                most = m.most;
                cells_size = q.cells_size;
                words = words_kept_all fills (fresh_words cells) ∙ fresh_length cells;
                deltas = deltas_kept_all fills (fresh_deltas cells) ∙ length-replicate (2 * cells) 0;
                spare_words_length = fresh_length cells;
                spare_deltas_length = length-replicate (2 * cells) 0;
              };
          rest = b ∙ ap (λ (r : Round). with_move T (rounds_from cells hasher h k v left r)) round_is;
          enough = subst (λ (r : Round). Enough cells null (hash_of hasher) r left) round_is
              (enough_next cells null (hash_of hasher) (clear_held cells) h k v q.cells_size (fresh_clear cells cells q.cells_size (omega arith)) here q.size left e f T c fills m);
        })
