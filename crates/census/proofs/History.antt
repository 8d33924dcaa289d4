-- How a key that stands is known event by event, and the list of the keys that stand. Assumes nothing.
use mathlib.Core.List.Memᴰ
use mathlib.Core.List.{List, [], ◌∷◌, Memᴰ}
use mathlib.Core.Logic.{◌≢◌, ◌⊎◌, inl, inr, ◌↔◌}
use mathlib.Core.Option.{some}
use mathlib.Core.Path.{◌≡◌, refl, sym, ap}
use Prim.Native.Nat.{ℕ, zero, suc, ◌<◌}
use native.Mathlib.Decide.{ℕ_discrete}
use native.Mathlib.Omega.{arith}
use lib.ListN.{length, get_elem?}
use Rattle.order.specs.Number.{Lists}
use Rattle.order.proofs.Number.{without, without_in, without_out, without_distinct, one_number, lists_same}
use Rattle.census.specs.History.{Event, put, drop, wipe, still, Stands}
use Rattle.census.specs.Steps.{LiveAfter}

-- no event of a list is on the key
pub record Quiet (es : List Event) (k : ℕ) : Type 0 where
  pub no_insert : (j : ℕ) → get_elem? es j ≢ some (put k)
  pub no_remove : (j : ℕ) → get_elem? es j ≢ some (drop k)
  pub no_clearing : (j : ℕ) → get_elem? es j ≢ some wipe

-- the key is live after the events of a list, by whether it was before
abbrev pub LiveAfterAll : List Event → ℕ → (was : Type 0) → Type 0
LiveAfterAll es k was = Stands es k ⊎ (was × Quiet es k)

-- ---- no event

quiet_nil : (k : ℕ) → Quiet [] k
quiet_nil k =
    record {
      no_insert = λ j e. let z : ◌≡◌ {A = ℕ} 0 1 = cc in omega arith;
      no_remove = λ j e. let z : ◌≡◌ {A = ℕ} 0 1 = cc in omega arith;
      no_clearing = λ j e. let z : ◌≡◌ {A = ℕ} 0 1 = cc in omega arith;
    }

stands_nil : (k : ℕ) → Stands [] k → ⊥
stands_nil k s = let e = s.inserted in let z : ◌≡◌ {A = ℕ} 0 1 = cc in omega arith

pub live_after_none : (k : ℕ) (was : Type 0) → LiveAfterAll [] k was ↔ was
live_after_none k was = (there, λ w. inr (w, quiet_nil k))
  where
    there : LiveAfterAll [] k was → was
    there (inl s) = absurd (stands_nil k s)
    there (inr w) = w.0

-- ---- one event more, before the others

module _ (e : Event) (es : List Event) (k : ℕ) where
  quiet_rest : Quiet (e ∷ es) k → Quiet es k
  quiet_rest q =
      record { no_insert = λ j. q.no_insert (suc j); no_remove = λ j. q.no_remove (suc j); no_clearing = λ j. q.no_clearing (suc j) }

  quiet_more : e ≢ put k → e ≢ drop k → e ≢ wipe → Quiet es k → Quiet (e ∷ es) k
  quiet_more a b c q = record { no_insert = ins; no_remove = rem; no_clearing = cle }
    where
      ins : (j : ℕ) → get_elem? (e ∷ es) j ≢ some (put k)
      ins zero x = a (cc)
      ins (suc j) x = q.no_insert j x

      rem : (j : ℕ) → get_elem? (e ∷ es) j ≢ some (drop k)
      rem zero x = b (cc)
      rem (suc j) x = q.no_remove j x

      cle : (j : ℕ) → get_elem? (e ∷ es) j ≢ some wipe
      cle zero x = c (cc)
      cle (suc j) x = q.no_clearing j x

  -- a later insert stands
  stands_later : Stands es k → Stands (e ∷ es) k
  stands_later s = record { at = suc s.at; inserted = s.inserted; last = las; no_remove = rem; no_clearing = cle }
    where
      las : (j : ℕ) → suc s.at < j → get_elem? (e ∷ es) j ≢ some (put k)
      las zero u = absurd (omega arith)
      las (suc j) u = s.last j (omega arith)

      rem : (j : ℕ) → suc s.at < j → get_elem? (e ∷ es) j ≢ some (drop k)
      rem zero u = absurd (omega arith)
      rem (suc j) u = s.no_remove j (omega arith)

      cle : (j : ℕ) → suc s.at < j → get_elem? (e ∷ es) j ≢ some wipe
      cle zero u = absurd (omega arith)
      cle (suc j) u = s.no_clearing j (omega arith)

  -- this one does, where no other is on the key
  stands_first : e ≡ put k → Quiet es k → Stands (e ∷ es) k
  stands_first x q = record { at = 0; inserted = ap some x; last = las; no_remove = rem; no_clearing = cle }
    where
      las : (j : ℕ) → 0 < j → get_elem? (e ∷ es) j ≢ some (put k)
      las zero u = absurd (omega arith)
      las (suc j) u = q.no_insert j

      rem : (j : ℕ) → 0 < j → get_elem? (e ∷ es) j ≢ some (drop k)
      rem zero u = absurd (omega arith)
      rem (suc j) u = q.no_remove j

      cle : (j : ℕ) → 0 < j → get_elem? (e ∷ es) j ≢ some wipe
      cle zero u = absurd (omega arith)
      cle (suc j) u = q.no_clearing j

  -- and these are the ways to stand
  stands_ways : Stands (e ∷ es) k → ((e ≡ put k) × Quiet es k) ⊎ Stands es k
  stands_ways s = go s.at s.inserted s.last s.no_remove s.no_clearing
    where
      go : (n : ℕ) → get_elem? (e ∷ es) n ≡ some (put k) → ((j : ℕ) → n < j → get_elem? (e ∷ es) j ≢ some (put k))
          → ((j : ℕ) → n < j → get_elem? (e ∷ es) j ≢ some (drop k))
          → ((j : ℕ) → n < j → get_elem? (e ∷ es) j ≢ some wipe)
          → ((e ≡ put k) × Quiet es k) ⊎ Stands es k
      go zero x a b c =
          let y : e ≡ put k = cc in
          inl (y, record { no_insert = λ j. a (suc j) (omega arith); no_remove = λ j. b (suc j) (omega arith); no_clearing = λ j. c (suc j) (omega arith) })
      go (suc n) x a b c =
          inr (record { at = n; inserted = x; last = λ j u. a (suc j) (omega arith); no_remove = λ j u. b (suc j) (omega arith); no_clearing = λ j u. c (suc j) (omega arith) })

other_put : {j k : ℕ} → k ≢ j → put j ≢ put k
other_put n x = n (sym (cc))

other_drop : {j k : ℕ} → k ≢ j → drop j ≢ drop k
other_drop n x = n (sym (cc))

-- what an event makes of a key that was live, where it is not on it
kept : (e : Event) (k : ℕ) (was : Type 0) → e ≢ put k → e ≢ drop k → e ≢ wipe → was → LiveAfter e k was
kept (put j) k was a b c w = inr w
kept (drop j) k was a b c w = (λ x. b (ap drop (sym x)), w)
kept wipe k was a b c w = absurd (c refl)
kept still k was a b c w = w

-- a key is live after a list of events exactly if it is live after its rest, by what the first event makes of it
pub live_after_more : (e : Event) (es : List Event) (k : ℕ) (was : Type 0) → LiveAfterAll (e ∷ es) k was ↔ LiveAfterAll es k (LiveAfter e k was)
live_after_more e es k was = (there, λ x. back e x)
  where
    own : (e : Event) → e ≡ put k → LiveAfter e k was
    own (put j) x = inl (sym (cc))
    own (drop j) x = let z : ◌≡◌ {A = ℕ} 0 1 = cc in absurd (omega arith)
    own wipe x = let z : ◌≡◌ {A = ℕ} 0 1 = cc in absurd (omega arith)
    own still x = let z : ◌≡◌ {A = ℕ} 0 1 = cc in absurd (omega arith)

    by : ((e ≡ put k) × Quiet es k) ⊎ Stands es k → LiveAfterAll es k (LiveAfter e k was)
    by (inl x) = inr (own e x.0, x.1)
    by (inr s) = inl s

    there : LiveAfterAll (e ∷ es) k was → LiveAfterAll es k (LiveAfter e k was)
    there (inl s) = by (stands_ways e es k s)
    there (inr w) =
        let q = w.1 in
        inr (kept e k was (λ x. q.no_insert 0 (ap some x)) (λ x. q.no_remove 0 (ap some x)) (λ x. q.no_clearing 0 (ap some x)) w.0, quiet_rest e es k q)

    still_put : (j : ℕ) → was → Quiet es k → Dec (k ≡ j) → LiveAfterAll (put j ∷ es) k was
    still_put j w q (yes x) = inl (stands_first (put j) es k (ap put (sym x)) q)
    still_put j w q (no n) =
        inr (w, quiet_more (put j) es k (other_put n) (λ x. let z : ◌≡◌ {A = ℕ} 0 1 = cc in omega arith) (λ x. let z : ◌≡◌ {A = ℕ} 0 1 = cc in omega arith) q)

    back : (e : Event) → LiveAfterAll es k (LiveAfter e k was) → LiveAfterAll (e ∷ es) k was
    back e (inl s) = inl (stands_later e es k s)
    back (put j) (inr (inl x, q)) = inl (stands_first (put j) es k (ap put (sym x)) q)
    back (put j) (inr (inr w, q)) = still_put j w q (ℕ_discrete k j)
    back (drop j) (inr (w, q)) =
        inr (w.1, quiet_more (drop j) es k (λ x. let z : ◌≡◌ {A = ℕ} 0 1 = cc in omega arith) (other_drop w.0) (λ x. let z : ◌≡◌ {A = ℕ} 0 1 = cc in omega arith) q)
    back wipe (inr (w, q)) = absurd w
    back still (inr (w, q)) =
        inr (w, quiet_more still es k (λ x. let z : ◌≡◌ {A = ℕ} 0 1 = cc in omega arith) (λ x. let z : ◌≡◌ {A = ℕ} 0 1 = cc in omega arith) (λ x. let z : ◌≡◌ {A = ℕ} 0 1 = cc in omega arith) q)

-- whether a key is live after them depends on whether it was live before alone
pub live_after_same : (es : List Event) (k : ℕ) (was now : Type 0) → (was → now) → LiveAfterAll es k was → LiveAfterAll es k now
live_after_same es k was now f (inl s) = inl s
live_after_same es k was now f (inr w) = inr (f w.0, w.1)

-- ---- the keys that stand, listed

abbrev keys_after : Event → List ℕ → List ℕ
keys_after (put j) ks = j ∷ without j ks
keys_after (drop j) ks = without j ks
keys_after wipe ks = []
keys_after still ks = ks

abbrev keys_after_all : List Event → List ℕ → List ℕ
keys_after_all [] ks = ks
keys_after_all (e ∷ es) ks = keys_after_all es (keys_after e ks)

-- the keys that stand, each once
abbrev pub standing : List Event → List ℕ
standing es = keys_after_all es []

listed_after : (e : Event) (P : ℕ → Type 0) (ks : List ℕ) → Lists P ks → Lists (λ k. LiveAfter e k (P k)) (keys_after e ks)
listed_after (put j) P ks l =
    record {
      distinct = (λ m. (without_out j ks m).1 refl, without_distinct j ks l.distinct);
      only = λ k m. from k (Memᴰ.cases_cons m);
      every = λ k x. into k (ℕ_discrete k j) x;
    }
  where
    from : (k : ℕ) → (k ≡ j) ⊎ Memᴰ k (without j ks) → (k ≡ j) ⊎ P k
    from k (inl x) = inl x
    from k (inr m) = inr (l.only k (without_out j ks m).0)

    into : (k : ℕ) → Dec (k ≡ j) → (k ≡ j) ⊎ P k → Memᴰ k (j ∷ without j ks)
    into k (yes x) y = Memᴰ.head x
    into k (no n) (inl x) = Memᴰ.head x
    into k (no n) (inr p) = Memᴰ.tail (without_in j ks (l.every k p) n)
listed_after (drop j) P ks l =
    record {
      distinct = without_distinct j ks l.distinct;
      only = λ k m. let o = without_out j ks m in (o.1, l.only k o.0);
      every = λ k x. without_in j ks (l.every k x.1) x.0;
    }
listed_after wipe P ks l = record { distinct = tt; only = λ k m. absurd (Memᴰ.not-nil m); every = λ k x. absurd x }
listed_after still P ks l = l

listed_all : (es : List Event) (P : ℕ → Type 0) (ks : List ℕ) → Lists P ks → Lists (λ k. LiveAfterAll es k (P k)) (keys_after_all es ks)
listed_all [] P ks l = lists_same P (λ k. LiveAfterAll [] k (P k)) ks (λ k. (live_after_none k (P k)).1) (λ k. (live_after_none k (P k)).0) l
listed_all (e ∷ es) P ks l =
    lists_same (λ k. LiveAfterAll es k (LiveAfter e k (P k))) (λ k. LiveAfterAll (e ∷ es) k (P k)) (keys_after_all (e ∷ es) ks)
    (λ k. (live_after_more e es k (P k)).1) (λ k. (live_after_more e es k (P k)).0)
    (listed_all es (λ k. LiveAfter e k (P k)) (keys_after e ks) (listed_after e P ks l))

-- from a table without keys those that stand are live
pub stands_live : (es : List Event) (k : ℕ) → LiveAfterAll es k ⊥ → Stands es k
stands_live es k (inl s) = s
stands_live es k (inr w) = absurd w.0

-- the keys that stand can be listed
pub standing_lists : (es : List Event) → Lists (Stands es) (standing es)
standing_lists es =
    lists_same (λ k. LiveAfterAll es k ⊥) (Stands es) (standing es) (stands_live es) (λ k s. inl s)
    (listed_all es (λ k. ⊥) [] (record { distinct = tt; only = λ k m. absurd (Memᴰ.not-nil m); every = λ k x. absurd x }))

-- their number does not depend on the list
pub standing_number : (es : List Event) (ks js : List ℕ) → Lists (Stands es) ks → Lists (Stands es) js → length ks ≡ length js
standing_number es = one_number (Stands es)
