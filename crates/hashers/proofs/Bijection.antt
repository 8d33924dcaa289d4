-- fmix64 is a bijection of the numbers below 2 ^ 64, and only 0 goes to 0. Assumes nothing.
use mathlib.Core.Path.{◌≡◌, refl, sym, ap, ap₂, ◌∙◌, subst}
use Prim.Native.Nat.{ℕ, zero, suc, ◌+◌, ◌*◌, ◌/◌, ◌%◌, ◌^◌, ◌<◌}
use native.Mathlib.Nat.{mul_assoc, one-mul, mul_comm, mod-eq_of_lt, mod-lt, zero-lt-suc, lt_of_le_of_lt, div-le_self, div-add-mod', not-suc-le-zero, le_of_suc-le-suc}
use native.Mathlib.Omega.{arith}
use lib.Arith.{bin_ind, digits_mod}
use lib.Bits.{bit_xor, differ, xor_step, xor_shr, xor_lt, xor_zero_r, xor_self}
use lib.Dec.{lit<}
use lib.Pow.{pow_pos}
use Rattle.util.proofs.Remainder.{mod_before_mul}
use Rattle.hashers.specs.Published.{fold33, fmix64}

-- ---- xor with one number twice changes nothing

no_bit : {x : ℕ} {A : Type 0} → suc (suc x) < 2 → A
no_bit h = absurd (not-suc-le-zero (le_of_suc-le-suc (le_of_suc-le-suc h)))

differ_lt : (x y : ℕ) → x < 2 → y < 2 → differ x y < 2
differ_lt zero y hx hy = hy
differ_lt (suc zero) zero hx hy = hx
differ_lt (suc zero) (suc zero) hx hy = lit< tt
differ_lt (suc zero) (suc (suc y)) hx hy = no_bit hy
differ_lt (suc (suc x)) y hx hy = no_bit hx

differ_twice : (x y : ℕ) → x < 2 → y < 2 → differ (differ x y) y ≡ x
differ_twice zero zero hx hy = refl
differ_twice zero (suc zero) hx hy = refl
differ_twice zero (suc (suc y)) hx hy = no_bit hy
differ_twice (suc zero) zero hx hy = refl
differ_twice (suc zero) (suc zero) hx hy = refl
differ_twice (suc zero) (suc (suc y)) hx hy = no_bit hy
differ_twice (suc (suc x)) y hx hy = no_bit hx

bit_lt : (n : ℕ) → n % 2 < 2
bit_lt n = mod-lt n (zero-lt-suc 1)

xor_twice : (a b : ℕ) → bit_xor (bit_xor a b) b ≡ a
xor_twice =
    bin_ind (λ (n : ℕ). (b : ℕ) → bit_xor (bit_xor n b) b ≡ n) xor_self
    (λ n ih b.
    let low : bit_xor n b % 2 ≡ differ (n % 2) (b % 2) = ap (λ (t : ℕ). t % 2) (xor_step n b) ∙ digits_mod (bit_xor (n / 2) (b / 2)) (differ_lt (n % 2) (b % 2) (bit_lt n) (bit_lt b)) in
    xor_step (bit_xor n b) b
    ∙ ap₂ (λ (x y : ℕ). bit_xor x (b / 2) * 2 + differ y (b % 2)) (xor_shr n b 1) low
    ∙ ap₂ (λ (x y : ℕ). x * 2 + y) (ih (b / 2)) (differ_twice (n % 2) (b % 2) (bit_lt n) (bit_lt b))
    ∙ div-add-mod' n 2)

-- ---- each step is undone

fold33_lt : (x : ℕ) → x < 2 ^ 64 → fold33 x < 2 ^ 64
unfolding fold33
fold33_lt x h = xor_lt 64 x (x / 2 ^ 33) h (lt_of_le_of_lt (div-le_self x (2 ^ 33)) h)

fold33_twice : (x : ℕ) → x < 2 ^ 64 → fold33 (fold33 x) ≡ x
unfolding fold33
fold33_twice x h =
    let gone : x / 2 ^ 33 / 2 ^ 33 ≡ 0 = omega arith in
    ap (bit_xor (bit_xor x (x / 2 ^ 33))) (xor_shr x (x / 2 ^ 33) 33 ∙ ap (bit_xor (x / 2 ^ 33)) gone ∙ xor_zero_r (x / 2 ^ 33)) ∙ xor_twice x (x / 2 ^ 33)

-- multiplying by c is undone by its inverse d
times_undone : (c d x : ℕ) → (c * d) % 2 ^ 64 ≡ 1 → x < 2 ^ 64 → (x * c) % 2 ^ 64 * d % 2 ^ 64 ≡ x
times_undone c d x e h =
    mod_before_mul (x * c) (2 ^ 64) d ∙ ap (λ (t : ℕ). t % 2 ^ 64) (mul_assoc x c d ∙ mul_comm x (c * d)) ∙ sym (mod_before_mul (c * d) (2 ^ 64) x)
    ∙ ap (λ (t : ℕ). t * x % 2 ^ 64) e ∙ ap (λ (t : ℕ). t % 2 ^ 64) (one-mul x) ∙ mod-eq_of_lt h

-- the finalizer over its two multipliers
unfoldable pub mix_by : ℕ → ℕ → ℕ → ℕ
mix_by a b x = fold33 (fold33 (fold33 x * a % 2 ^ 64) * b % 2 ^ 64)

mix_by_lt : (a b x : ℕ) → mix_by a b x < 2 ^ 64
unfolding mix_by
mix_by_lt a b x = fold33_lt (fold33 (fold33 x * a % 2 ^ 64) * b % 2 ^ 64) (mod-lt (fold33 (fold33 x * a % 2 ^ 64) * b) (pow_pos 64))

mix_by_undone : (a a' b b' x : ℕ) → (a * a') % 2 ^ 64 ≡ 1 → (b * b') % 2 ^ 64 ≡ 1 → x < 2 ^ 64 → mix_by b' a' (mix_by a b x) ≡ x
unfolding mix_by
mix_by_undone a a' b b' x ea eb h =
    let y = fold33 x * a % 2 ^ 64 in
    let hy : y < 2 ^ 64 = mod-lt (fold33 x * a) (pow_pos 64) in
    let z = fold33 y * b % 2 ^ 64 in
    let hz : z < 2 ^ 64 = mod-lt (fold33 y * b) (pow_pos 64) in
    ap (λ (t : ℕ). fold33 (fold33 (t * b' % 2 ^ 64) * a' % 2 ^ 64)) (fold33_twice z hz)
    ∙ ap (λ (t : ℕ). fold33 (fold33 t * a' % 2 ^ 64)) (times_undone b b' (fold33 y) eb (fold33_lt y hy))
    ∙ ap (λ (t : ℕ). fold33 (t * a' % 2 ^ 64)) (fold33_twice y hy)
    ∙ ap fold33 (times_undone a a' (fold33 x) ea (fold33_lt x h))
    ∙ fold33_twice x h

fmix64_mix_by : (x : ℕ) → fmix64 x ≡ mix_by 0xff51afd7ed558ccd 0xc4ceb9fe1a85ec53 x
unfolding fmix64 mix_by
fmix64_mix_by x = refl

-- ---- the claims

-- the inverse: the same steps with the inverse multipliers, in the other order
abbrev pub unmix : ℕ → ℕ
unmix = mix_by 0x9cb4b2f8129337db 0x4f74430c22a54005

pub fmix64_lt : (x : ℕ) → fmix64 x < 2 ^ 64
fmix64_lt x = subst (λ (t : ℕ). t < 2 ^ 64) (sym (fmix64_mix_by x)) (mix_by_lt 0xff51afd7ed558ccd 0xc4ceb9fe1a85ec53 x)

pub unmix_lt : (x : ℕ) → unmix x < 2 ^ 64
unmix_lt = mix_by_lt 0x9cb4b2f8129337db 0x4f74430c22a54005

pub unmix_fmix64 : (x : ℕ) → x < 2 ^ 64 → unmix (fmix64 x) ≡ x
unmix_fmix64 x h = ap unmix (fmix64_mix_by x) ∙ mix_by_undone 0xff51afd7ed558ccd 0x4f74430c22a54005 0xc4ceb9fe1a85ec53 0x9cb4b2f8129337db x refl refl h

pub fmix64_unmix : (x : ℕ) → x < 2 ^ 64 → fmix64 (unmix x) ≡ x
fmix64_unmix x h = fmix64_mix_by (unmix x) ∙ mix_by_undone 0x9cb4b2f8129337db 0xc4ceb9fe1a85ec53 0x4f74430c22a54005 0xff51afd7ed558ccd x refl refl h

pub fmix64_injective : (x y : ℕ) → x < 2 ^ 64 → y < 2 ^ 64 → fmix64 x ≡ fmix64 y → x ≡ y
fmix64_injective x y hx hy e = sym (unmix_fmix64 x hx) ∙ ap unmix e ∙ unmix_fmix64 y hy

pub fmix64_zero_only : (x : ℕ) → x < 2 ^ 64 → fmix64 x ≡ 0 → x ≡ 0
unfolding fmix64 fold33
fmix64_zero_only x h e = fmix64_injective x 0 h (lit< tt) e
