-- The rounds of a growing insert with the halves in their places: how they begin, go on and end. Assumes nothing.
use mathlib.Core.Bool.{true}
use mathlib.Core.List.{List, []}
use mathlib.Core.Path.{◌≡◌, refl, sym, ap, subst, ◌∙◌}
use Prim.Native.Nat.{ℕ, suc, ◌+◌, ◌<◌}
use native.Mathlib.Omega.{arith}
use lib.ListN.{length}
use Rattle.hashers.specs.Keys.{hash_of}
use Rattle.hashers.specs.declared.Hasher.{Hasher}
use Rattle.rules.specs.Sizes.{is_size}
use Rattle.rules.specs.Moves.{Became, stays, cleared}
use Rattle.rules.specs.Growing as rule
use Rattle.rules.specs.Growing.{GrowOutcome, with_move, other_half, most_rounds}
use Rattle.cells.specs.Layout.{null}
use Rattle.moving.specs.Slices.{clear_held}
use Rattle.parts.specs.Halves.{of_half}
use Rattle.growthlaws.specs.Rounds.{Enough}
use Rattle.growthlaws.proofs.Rounds.{enough_one, start_enough}
use Rattle.growth.specs.Rounds as turns
use Rattle.growth.specs.Rounds.{Halved, Sides, TurnEnd, TurnedOn, turn_on, turn_sides}
use Rattle.growth.specs.Growth.{Grown, grew_from, rounds_on}
use Rattle.growth.proofs.Turns.{round_at, rounds_from, TurnWay, answers, untried, all_full, breaks, moves, turn_way}
use Rattle.growth.proofs.Still.{Moves, ends}
use Rattle.growth.proofs.Going.{moved_on, Going, Final, final_lower, final_upper, MovedTo, moved_to}

module _ (cells : ℕ) (hasher : Hasher) (h k v live : ℕ) (whole : GrowOutcome) (lws₀ lds₀ uws₀ uds₀ : List ℕ) where
  abbrev GoingAt : rule.Half → (size count : ℕ) → (lws lds uws uds : List ℕ) → Type 0
  GoingAt half size count lws lds uws uds = Going cells hasher h k v live whole lws₀ lds₀ uws₀ uds₀ half size count lws lds uws uds

  module _ (size count : ℕ) (lws lds uws uds : List ℕ) where
    -- a round is left
    one : (half : rule.Half) (g : GoingAt half size count lws lds uws uds) → (n : ℕ) × (g.left ≡ suc n)
    one half g =
        enough_one cells null (hash_of hasher) (clear_held cells) h k v
        (round_at size half live (of_half half lws uws) (of_half half lds uds) g.used g.spare) g.left g.enough

    pub one_left : (half : rule.Half) → GoingAt half size count lws lds uws uds → count < most_rounds
    one_left half g = let n = one half g in omega (arith, g.most, n.1)

    -- what is left, after one round
    after : (half : rule.Half) (g : GoingAt half size count lws lds uws uds)
        → grew_from cells whole lws₀ lds₀ uws₀ uds₀
        ≡ moved_on count (grew_from cells (rounds_from cells hasher h k v (suc (one half g).0) (round_at size half live (of_half half lws uws) (of_half half lds uds) g.used g.spare)) lws₀ lds₀ uws₀ uds₀)
    after half g =
        g.same
        ∙ ap (λ (n : ℕ). moved_on count (grew_from cells (rounds_from cells hasher h k v n (round_at size half live (of_half half lws uws) (of_half half lds uds) g.used g.spare)) lws₀ lds₀ uws₀ uds₀)) (one half g).1

    -- a round that does not move ends the call
    pub finish : (half : rule.Half) → GoingAt half size count lws lds uws uds → (x : TurnedOn) → x ≡ turn_sides half cells hasher size live h k v lws lds uws uds
        → (Moves x.end → ⊥) → Final cells lws₀ lds₀ uws₀ uds₀ count size half x ≡ grew_from cells whole lws₀ lds₀ uws₀ uds₀
    finish rule.lower g x e n =
        let q = g.sides in
        let w = turn_way cells hasher h k v size live lws lds uws uds (one rule.lower g).0 rule.lower g.used g.spare q.cells_size in
        let d =
        ends cells hasher h k v size live lws lds uws uds (one rule.lower g).0 rule.lower g.used g.spare lws₀ lds₀ uws₀ uds₀
        g.lower_words_become g.lower_deltas_become g.upper_words_become g.upper_deltas_become x _ (rw (sym e) at w) n in
        final_lower cells lws₀ lds₀ uws₀ uds₀ count size x _ d ∙ sym (after rule.lower g)
    finish rule.upper g x e n =
        let q = g.sides in
        let y = turn_on cells hasher size live h k v uws uds lws lds in
        let w = turn_way cells hasher h k v size live uws uds lws lds (one rule.upper g).0 rule.upper g.used g.spare q.cells_size in
        let d =
        ends cells hasher h k v size live uws uds lws lds (one rule.upper g).0 rule.upper g.used g.spare uws₀ uds₀ lws₀ lds₀
        g.upper_words_become g.upper_deltas_become g.lower_words_become g.lower_deltas_become y _ w (rw e at n) in
        ap (Final cells lws₀ lds₀ uws₀ uds₀ count size rule.upper) e ∙ final_upper cells lws₀ lds₀ uws₀ uds₀ count size y _ d ∙ sym (after rule.upper g)

    -- one move more
    counted : (T : ℕ) (y : GrowOutcome) → moved_on count (grew_from cells (with_move T y) lws₀ lds₀ uws₀ uds₀) ≡ moved_on (count + 1) (grew_from cells y lws₀ lds₀ uws₀ uds₀)
    unfolding grew_from
    counted T y =
        let e : count + suc (length y.moves) ≡ count + 1 + length y.moves = omega arith in
        λ i. record {
          said = y.said;
          looked = y.looked;
          moves = e i;
          counts = y.counts;
          size = y.size;
          half = y.half;
          lower_words = (grew_from cells y lws₀ lds₀ uws₀ uds₀).lower_words;
          lower_deltas = (grew_from cells y lws₀ lds₀ uws₀ uds₀).lower_deltas;
          upper_words = (grew_from cells y lws₀ lds₀ uws₀ uds₀).upper_words;
          upper_deltas = (grew_from cells y lws₀ lds₀ uws₀ uds₀).upper_deltas;
        }

    -- by the roles of the halves: a round whose end is a move
    moved_way : (ws ds sws sds : List ℕ) (n : ℕ) (half : rule.Half) (used spare : Became) → Halved ws ds sws sds cells size
        → Enough cells null (hash_of hasher) (round_at size half live ws ds used spare) (suc n)
        → (x : TurnedOn) → TurnWay cells hasher h k v size live ws ds sws sds n (round_at size half live ws ds used spare) x (rounds_from cells hasher h k v (suc n) (round_at size half live ws ds used spare))
        → (T : ℕ) → x.end ≡ turns.moved T → MovedTo cells hasher h k v size live ws ds n half used spare x T
    moved_way ws ds sws sds n half used spare q e x (answers f a b) T y = cc
    moved_way ws ds sws sds n half used spare q e x (untried a b) T y = cc
    moved_way ws ds sws sds n half used spare q e x (all_full a b) T y = cc
    moved_way ws ds sws sds n half used spare q e x (breaks a b) T y = cc
    moved_way ws ds sws sds n half used spare q e x (moves f T' c fills m a b) T y =
        let t : T' ≡ T = cc in
        subst (MovedTo cells hasher h k v size live ws ds n half used spare x) t (moved_to cells hasher h k v size live ws ds sws sds n half used spare q e T' c fills f m x a b)

    -- a round that moves is followed by another, with the halves in each other's place
    pub onward : (half : rule.Half) → GoingAt half size count lws lds uws uds → (x : TurnedOn) → x ≡ turn_sides half cells hasher size live h k v lws lds uws uds
        → (T : ℕ) → x.end ≡ turns.moved T → GoingAt (other_half half) T (count + 1) x.words x.deltas x.spare_words x.spare_deltas
    onward rule.lower g x e T y =
        let q = g.sides in
        let n = one rule.lower g in
        let w = turn_way cells hasher h k v size live lws lds uws uds n.0 rule.lower g.used g.spare q.cells_size in
        let m =
        moved_way lws lds uws uds n.0 rule.lower g.used g.spare q
        (subst (Enough cells null (hash_of hasher) (round_at size rule.lower live lws lds g.used g.spare)) n.1 g.enough) x (rw (sym e) at w) T y in
        record {
          left = n.0;
          used = cleared m.fills;
          spare = cleared [];
          lower_words_become = m.words;
          lower_deltas_become = m.deltas;
          upper_words_become = m.spare_words_filled;
          upper_deltas_become = m.spare_deltas_filled;
          same = after rule.lower g ∙ ap (λ (o : GrowOutcome). moved_on count (grew_from cells o lws₀ lds₀ uws₀ uds₀)) m.rest ∙ counted T _;
          sides = m.halved;
          enough = m.enough;
          most = omega (arith, g.most, n.1);
        }
    onward rule.upper g x e T y =
        let q = g.sides in
        let n = one rule.upper g in
        let r = turn_on cells hasher size live h k v uws uds lws lds in
        let w = turn_way cells hasher h k v size live uws uds lws lds n.0 rule.upper g.used g.spare q.cells_size in
        let m =
        moved_way uws uds lws lds n.0 rule.upper g.used g.spare q
        (subst (Enough cells null (hash_of hasher) (round_at size rule.upper live uws uds g.used g.spare)) n.1 g.enough) r w T (sym (ap (λ (x : TurnedOn). x.end) e) ∙ y) in
        rw e
        (record {
          left = n.0;
          used = cleared m.fills;
          spare = cleared [];
          lower_words_become = m.spare_words_filled;
          lower_deltas_become = m.spare_deltas_filled;
          upper_words_become = m.words;
          upper_deltas_become = m.deltas;
          same = after rule.upper g ∙ ap (λ (o : GrowOutcome). moved_on count (grew_from cells o lws₀ lds₀ uws₀ uds₀)) m.rest ∙ counted T _;
          sides = m.halved;
          enough = m.enough;
          most = omega (arith, g.most, n.1);
        })

none_before : (g : Grown) → g ≡ moved_on 0 g
none_before g =
    let e : g.moves ≡ 0 + g.moves = omega arith in
    λ i. record {
      said = g.said;
      looked = g.looked;
      moves = e i;
      counts = g.counts;
      size = g.size;
      half = g.half;
      lower_words = g.lower_words;
      lower_deltas = g.lower_deltas;
      upper_words = g.upper_words;
      upper_deltas = g.upper_deltas;
    }

-- the first round
pub begin : (cells : ℕ) (hasher : Hasher) (h k v live size : ℕ) (half : rule.Half) (lws lds uws uds : List ℕ) → is_size cells ≡ true → Sides half lws lds uws uds cells size
    → Going cells hasher h k v live (rounds_on cells hasher size half live h k v lws lds uws uds) lws lds uws uds half size 0 lws lds uws uds
unfolding rounds_on
begin cells hasher h k v live size half lws lds uws uds s q = go half q
  where
    go : (x : rule.Half) → Sides x lws lds uws uds cells size
        → Going cells hasher h k v live (rounds_on cells hasher size x live h k v lws lds uws uds) lws lds uws uds x size 0 lws lds uws uds
    go rule.lower q =
        record {
          left = most_rounds;
          used = stays [];
          spare = stays [];
          lower_words_become = refl;
          lower_deltas_become = refl;
          upper_words_become = refl;
          upper_deltas_become = refl;
          same = none_before _;
          sides = q;
          enough = start_enough cells null (hash_of hasher) (clear_held cells) h k v s (round_at size rule.lower live lws lds (stays []) (stays []));
          most = omega arith;
        }
    go rule.upper q =
        record {
          left = most_rounds;
          used = stays [];
          spare = stays [];
          lower_words_become = refl;
          lower_deltas_become = refl;
          upper_words_become = refl;
          upper_deltas_become = refl;
          same = none_before _;
          sides = q;
          enough = start_enough cells null (hash_of hasher) (clear_held cells) h k v s (round_at size rule.upper live uws uds (stays []) (stays []));
          most = omega arith;
        }
