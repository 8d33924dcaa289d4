-- A round's code, from its insert to what follows Full. Assumes nothing.
use mathlib.Core.Bool.{true, false}
use mathlib.Core.List.{List, [], ◌∷◌}
use mathlib.Core.Path.{◌≡◌, refl, sym, ap, ◌∙◌}
use Prim.Native.Nat.{ℕ, ◌≤◌}
use native.Mathlib.Omega.{arith}
use Rattle.std.specs.Prelude.{Result, Ok, Err}
use Rattle.hashers.specs.declared.Hasher.{Hasher}
use Rattle.hashers.specs.declared.Hasher.TheVariants.{Simple}
use Rattle.rules.specs.Sizes.{is_size}
use Rattle.rules.specs.Answers.{refused, Change, Outcome}
use Rattle.rules.specs.Calls.{insert_stored}
use Rattle.rules.specs.Growth.{sampled, sample, first_size}
use Rattle.rules.specs.Moves.{stays}
use Rattle.rules.specs.Growing.{tries, sizes, is_full, carried_by}
use Rattle.cells.specs.Layout.{null, view, value_in, params_of, counts_of, fresh_words, fresh_deltas, words_after, deltas_after, Done, done_by}
use Rattle.cells.specs.Workers.{put_said, worker_said, insert_done}
use Rattle.cells.specs.declared.insert.FullAt.{FullAt}
use Rattle.cells.specs.declared.insert.Inserted.{Inserted}
use Rattle.cells.specs.declared.insert.Put.{Put}
use Rattle.cells.specs.declared.insert.Put.TheVariants as puts
use Rattle.cells.specs.declared.insert.InsertSaid.{InsertSaid}
use Rattle.cells.specs.declared.insert.InsertSaid.TheVariants as says
use Rattle.moving.specs.Slices.{held_in, clear_held}
use Rattle.laws.proofs.Refusals.{stored_refused_leaves}
use Rattle.sizing.proofs.Samples.{sample_most}
use Rattle.sizing.proofs.Sizes.{first_size_power}
use Rattle.growth.specs.Rounds as turns
use Rattle.growth.specs.Rounds.{Power, tried_to, tried_on, tried_by, tried_end, TurnedOn, turn_tried, full_on, turn_on}
use Rattle.growth.specs.declared.TryError.{TryError}
use Rattle.growth.specs.declared.TryError.TheVariants as errors

-- ---- after Full

module _ (cells size live looked position : ℕ) (ws ds sws sds : List ℕ) (n first : ℕ) (f : first ≡ first_size size n)
    (s : (hasher : Hasher) (xs : List ℕ) → n ≡ sample (params_of size hasher) (view ws xs) (value_in ws) position) where
  -- a sample counts no more than it looks at
  pub sample_fits : n ≤ sampled
  sample_fits = omega (arith, s Simple ds, sample_most (params_of size Simple) (view ws ds) (value_in ws) position)

  -- the first size is a power of two
  pub first_power : is_size size ≡ true → Power first
  first_power z = let p = first_size_power size n z sample_fits in record { log = p.0; is = f ∙ p.1; least = p.2 }

  module _ (r : Result ℕ TryError) (sw sd : List ℕ)
      (e : (xs : List ℕ) → tried_by r sw sd ≡ tried_on cells (tries cells null size (held_in ws xs) (counts_of live) (clear_held cells) sizes first (stays [])) sws sds) where
    tried_on_lem : (hasher : Hasher) → turn_tried cells looked live ws ds (tried_by r sw sd) ≡ full_on cells hasher size live looked position ws ds sws sds
    unfolding full_on
    tried_on_lem hasher =
        ap (turn_tried cells looked live ws ds) (e ds)
        ∙ ap (λ (x : ℕ). turn_tried cells looked live ws ds (tried_on cells (tries cells null size (held_in ws ds) (counts_of live) (clear_held cells) sizes x (stays [])) sws sds))
        (f ∙ ap (first_size size) (s hasher ds))

    abbrev After : turns.TurnEnd → (w d : List ℕ) → TurnedOn
    After end w d =
        record {
          end = end;
          looked = looked;
          counts = counts_of live;
          words = w;
          deltas = d;
          spare_words = sw;
          spare_deltas = sd;
        }

    pub full_to : (T : ℕ) → r ≡ Ok T → (w d : List ℕ) → w ≡ fresh_words cells → d ≡ fresh_deltas cells
        → (hasher : Hasher) → After (turns.moved T) w d ≡ full_on cells hasher size live looked position ws ds sws sds
    full_to T q w d a b hasher =
        (λ i. After (turns.moved T) (a i) (b i)) ∙ sym (ap (λ (x : Result ℕ TryError). turn_tried cells looked live ws ds (tried_by x sw sd)) q) ∙ tried_on_lem hasher

    -- no size was enough, or a try was Broken: the half in use stays
    pub full_refused : (x : TryError) → r ≡ Err x → (end : turns.TurnEnd) → end ≡ tried_end (tried_to (Err x))
        → (hasher : Hasher) → After end ws ds ≡ full_on cells hasher size live looked position ws ds sws sds
    full_refused x q end y hasher =
        ap (λ (z : turns.TurnEnd). After z ws ds) y ∙ left x ∙ sym (ap (λ (z : Result ℕ TryError). turn_tried cells looked live ws ds (tried_by z sw sd)) q) ∙ tried_on_lem hasher
      where
        left : (x : TryError) → After (tried_end (tried_to (Err x))) ws ds ≡ turn_tried cells looked live ws ds (tried_by (Err x) sw sd)
        left errors.NoRoom = refl
        left errors.Broken = refl

-- ---- a round

-- an answer other than Full
pub put_not_full : (s : InsertSaid) → is_full (put_said s) ≡ false
put_not_full says.New = refl
put_not_full (says.Replaced old) = refl
put_not_full says.Revived = refl

module _ (cells size live h k v : ℕ) (ws ds sws sds : List ℕ) (r : Inserted) (w d : List ℕ)
    (e : insert_done r w d ≡ done_by (insert_stored size null (view ws ds) (value_in ws) (counts_of live) h k v) ws ds) where
  abbrev here : Outcome
  here = insert_stored size null (view ws ds) (value_in ws) (counts_of live) h k v

  done : insert_done r w d
      ≡ record { said = here.said; looked = here.looked; counts = here.counts; words = words_after here.change ws; deltas = deltas_after here.change ds }
  unfolding done_by
  done = e

  said_is : worker_said r.said ≡ here.said
  said_is = ap (λ (x : Done). x.said) done

  -- an answer that is not Full ends the round
  pub round_answered : (x : Put) → r.said ≡ x → is_full (worker_said x) ≡ false → (hasher : Hasher)
      → record {
        end = turns.answered (worker_said x);
        looked = r.looked;
        counts = counts_of r.live;
        words = w;
        deltas = d;
        spare_words = sws;
        spare_deltas = sds;
      }
      ≡ turn_on cells hasher size live h k v ws ds sws sds
  unfolding turn_on
  round_answered x q n hasher =
      let y : worker_said x ≡ here.said = sym (ap worker_said q) ∙ said_is in
      let f : is_full here.said ≡ false = ap is_full (sym y) ∙ n in
      rw f
      (λ i. record {
        end = turns.answered (y i);
        looked = (done i).looked;
        counts = (done i).counts;
        words = (done i).words;
        deltas = (done i).deltas;
        spare_words = sws;
        spare_deltas = sds;
      })

  module _ (at : FullAt) (q : r.said ≡ puts.Full at) where
    says_full : here.said ≡ refused 4 (at.position ∷ [])
    says_full = sym said_is ∙ ap worker_said q

    no_change : (x : Change) → here.change ≡ x → words_after here.change ws ≡ words_after x ws
    no_change x y = ap (λ (c : Change). words_after c ws) y

    -- Full leaves the slices
    pub full_words : w ≡ ws
    full_words =
        ap (λ (x : Done). x.words) done
        ∙ ap (λ (c : Change). words_after c ws) (stored_refused_leaves 4 (at.position ∷ []) size null (view ws ds) (value_in ws) (counts_of live) h k v says_full).change

    pub full_deltas : d ≡ ds
    full_deltas =
        ap (λ (x : Done). x.deltas) done
        ∙ ap (λ (c : Change). deltas_after c ds) (stored_refused_leaves 4 (at.position ∷ []) size null (view ws ds) (value_in ws) (counts_of live) h k v says_full).change

    -- what follows Full ends the round
    pub round_full : (x : TurnedOn) → ((hasher : Hasher) → x ≡ full_on cells hasher size live r.looked at.position w d sws sds)
        → (hasher : Hasher) → x ≡ turn_on cells hasher size live h k v ws ds sws sds
    unfolding turn_on
    round_full x y hasher =
        let l : r.looked ≡ here.looked = ap (λ (x : Done). x.looked) done in
        let p : at.position ≡ carried_by here.said = sym (ap carried_by says_full) in
        y hasher
        ∙ (λ i. full_on cells hasher size live (l i) (p i) (full_words i) (full_deltas i) sws sds)
        ∙ sym (rw says_full refl)
