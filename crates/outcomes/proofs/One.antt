-- When two things are one. Assumes nothing.
use mathlib.Core.Path.{◌≡◌, sym, ap, ◌∙◌}

-- what equals the same
pub both : {A : Type 0} {a b x : A} → a ≡ x → b ≡ x → a ≡ b
both ea eb = ea ∙ sym eb

-- a left inverse makes two that read alike one
pub one : {A B : Type 0} (f : A → B) (g : B → A) → ((a : A) → g (f a) ≡ a) → (a b : A) → f a ≡ f b → a ≡ b
one f g back a b e = sym (back a) ∙ ap g e ∙ back b
