-- One round on the slices, beside the same round of the rules. Assumes nothing.
use mathlib.Core.Bool.{Bool, true, false}
use mathlib.Core.List.{List, []}
use mathlib.Core.Path.{◌≡◌, refl, ◌∙◌}
use Prim.Native.Nat.{ℕ, zero, suc, ◌≤◌}
use native.Mathlib.Omega.{arith}
use Rattle.hashers.specs.Keys.{hash_of}
use Rattle.hashers.specs.declared.Hasher.{Hasher}
use Rattle.rules.specs.Sizes.{is_size}
use Rattle.rules.specs.Cells.{Counts}
use Rattle.rules.specs.Answers.{refused, Change, Outcome}
use Rattle.rules.specs.Calls.{insert_stored}
use Rattle.rules.specs.Growth.{sample, first_size}
use Rattle.rules.specs.Moves.{Became, stays, cleared}
use Rattle.rules.specs.Growing as rule
use Rattle.rules.specs.Growing.{Tries, tries, sizes, Round, GrowOutcome, answered, refused_at, with_move, round_after, carried_by, is_full, rounds}
use Rattle.cells.specs.Layout.{null, view, value_in, params_of, counts_of, fresh_words, fresh_deltas}
use Rattle.moving.specs.Slices.{held_in, clear_held, words_after_all, deltas_after_all}
use Rattle.laws.specs.Full.{IsFull}
use Rattle.sizing.proofs.Sizes.{first_size_least}
use Rattle.growthlaws.specs.Tries as tried
use Rattle.growthlaws.specs.Tries.{MovedInto, TriesWay}
use Rattle.growthlaws.proofs.Doubling.{full_said}
use Rattle.growthlaws.proofs.Tries.{tries_above, tries_way, sizes_enough, grows}
use Rattle.growthlaws.proofs.Rounds.{round_answers, round_tries_lem}
use Rattle.growth.specs.Rounds as turns
use Rattle.growth.specs.Rounds.{TurnedOn, tried_on, turn_tried, answered_on, full_on, turn_on}
use Rattle.growth.proofs.Tries.{tries_fits}

-- a round from these slices, with what became of the halves so far
abbrev pub round_at : (size : ℕ) → rule.Half → (live : ℕ) → (ws ds : List ℕ) → (used spare : Became) → Round
round_at size half live ws ds used spare =
    record {
      size = size;
      half = half;
      held = held_in ws ds;
      counts = counts_of live;
      used = used;
      spare = spare;
    }

module _ (cells : ℕ) (hasher : Hasher) (h k v : ℕ) where
  abbrev pub rounds_from : (left : ℕ) → Round → GrowOutcome
  rounds_from left r = rounds cells null (hash_of hasher) (clear_held cells) h k v left r

  module _ (size live : ℕ) (ws ds : List ℕ) where
    abbrev pub inserted : Outcome
    inserted = insert_stored size null (view ws ds) (value_in ws) (counts_of live) h k v

    abbrev pub first : ℕ
    first = first_size size (sample (params_of size hasher) (view ws ds) (value_in ws) (carried_by inserted.said))

    abbrev Into : ℕ → Counts → List Change → Type 0
    Into T c fills = MovedInto cells null size (held_in ws ds) (counts_of live) (clear_held cells) first T c fills

    abbrev ended : turns.TurnEnd → (ws' ds' sws' sds' : List ℕ) → TurnedOn
    ended e ws' ds' sws' sds' =
        record {
          end = e;
          looked = inserted.looked;
          counts = counts_of live;
          words = ws';
          deltas = ds';
          spare_words = sws';
          spare_deltas = sds';
        }

    -- how a round ends on the slices, and what the rules' round gives
    pub data TurnWay (sws sds : List ℕ) (left : ℕ) (r : Round) (x : TurnedOn) (g : GrowOutcome) : Type 0 where
      answers : is_full inserted.said ≡ false → x ≡ answered_on inserted ws ds sws sds → g ≡ answered r inserted → TurnWay sws sds left r x g
      untried : x ≡ ended (turns.answered (refused 6 [])) ws ds sws sds → g ≡ refused_at r 6 inserted.looked r.spare → TurnWay sws sds left r x g
      all_full : x ≡ ended (turns.answered (refused 6 [])) ws ds (fresh_words cells) (fresh_deltas cells) → g ≡ refused_at r 6 inserted.looked (cleared []) → TurnWay sws sds left r x g
      breaks : x ≡ ended (turns.answered (refused 5 [])) ws ds (fresh_words cells) (fresh_deltas cells) → g ≡ refused_at r 5 inserted.looked (cleared []) → TurnWay sws sds left r x g
      moves : IsFull inserted.said → (T : ℕ) (c : Counts) (fills : List Change) → Into T c fills
          → x ≡ ended (turns.moved T) (fresh_words cells) (fresh_deltas cells) (words_after_all fills (fresh_words cells)) (deltas_after_all fills (fresh_deltas cells))
          → g ≡ with_move T (rounds_from left (round_after r (clear_held cells) T c fills))
          → TurnWay sws sds left r x g

    module _ (sws sds : List ℕ) (left : ℕ) (half : rule.Half) (used spare : Became) (s : is_size cells ≡ true) where
      abbrev here : Round
      here = round_at size half live ws ds used spare

      abbrev Way : Type 0
      Way = TurnWay sws sds left here (turn_on cells hasher size live h k v ws ds sws sds) (rounds_from (suc left) here)

      abbrev tries_by : Became → Tries
      tries_by b = tries cells null size (held_in ws ds) (counts_of live) (clear_held cells) sizes first b

      -- what the code does after Full
      full_on_lem : is_full inserted.said ≡ true → (t : Tries) → tries_by (stays []) ≡ t
          → turn_on cells hasher size live h k v ws ds sws sds ≡ turn_tried cells inserted.looked live ws ds (tried_on cells t sws sds)
      unfolding turn_on full_on
      full_on_lem e t q = rw (e, q)

      same_tries : first ≤ cells → tries_by spare ≡ tries_by (stays [])
      same_tries l = go sizes refl
        where
          go : (n : ℕ) → n ≡ sizes
              → tries cells null size (held_in ws ds) (counts_of live) (clear_held cells) n first spare ≡ tries cells null size (held_in ws ds) (counts_of live) (clear_held cells) n first (stays [])
          go zero e = absurd (omega arith)
          go (suc n) e = tries_fits cells null size (held_in ws ds) (counts_of live) (clear_held cells) n first l spare (stays [])

      full_way : is_full inserted.said ≡ true → TriesWay cells null size (held_in ws ds) (counts_of live) (clear_held cells) first (stays []) (tries_by (stays [])) → Way
      full_way e (tried.untried u x) =
          untried (full_on_lem e _ x)
          (round_tries_lem cells null (hash_of hasher) (clear_held cells) h k v left here e _
          (tries_above cells null size (held_in ws ds) (counts_of live) (clear_held cells) sizes first spare u))
      full_way e (tried.all_full u f x) =
          all_full (full_on_lem e _ x) (round_tries_lem cells null (hash_of hasher) (clear_held cells) h k v left here e _ (same_tries u ∙ x))
      full_way e (tried.breaks u x) =
          breaks (full_on_lem e _ x) (round_tries_lem cells null (hash_of hasher) (clear_held cells) h k v left here e _ (same_tries (least u) ∙ x))
        where
          least : tried.Trouble cells null size (held_in ws ds) (counts_of live) (clear_held cells) first → first ≤ cells
          least u = omega (arith, u.most, grows first u.before)
      full_way e (tried.moves T c fills m x) =
          moves (full_said _ e) T c fills m (full_on_lem e _ x)
          (round_tries_lem cells null (hash_of hasher) (clear_held cells) h k v left here e _ (same_tries (omega (arith, m.least, m.most)) ∙ x))

      pub turn_way : TurnWay sws sds left (round_at size half live ws ds used spare) (turn_on cells hasher size live h k v ws ds sws sds)
          (rounds_from (suc left) (round_at size half live ws ds used spare))
      unfolding turn_on
      turn_way = go (is_full inserted.said) refl
        where
          go : (b : Bool) → is_full inserted.said ≡ b → Way
          go false e = answers e (rw e) (round_answers cells null (hash_of hasher) (clear_held cells) h k v left here e)
          go true e =
              full_way e
              (tries_way cells null size (held_in ws ds) (counts_of live) (clear_held cells) sizes first (stays []) (sizes_enough cells first s (first_size_least size _)))
