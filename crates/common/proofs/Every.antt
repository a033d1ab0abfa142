-- A fact of every element of a list.
use mathlib.Core.Path.{◌≡◌}
use Prim.Native.Nat.{ℕ, zero, suc, ◌<◌}
use native.Mathlib.Nat.{not-suc-le-zero, le_of_suc-le-suc}
use native.Mathlib.Omega.{arith}
use mathlib.Core.Option.{some}
use mathlib.Core.List.{List, [], ◌∷◌, ◌++◌, map}
use lib.ListN.{length, get_or, get_elem?, replicate}
use Rattle.common.specs.Every.{Every}

module _ {ℓ} {A : Type ℓ} where
  pub every_append : (P : A → Type 0) (xs ys : List A) → Every P xs → Every P ys → Every P (xs ++ ys)
  every_append P [] ys h k = k
  every_append P (x ∷ xs) ys h k = (h.0, every_append P xs ys h.1 k)

  pub every_front : (P : A → Type 0) (xs ys : List A) → Every P (xs ++ ys) → Every P xs
  every_front P [] ys h = tt
  every_front P (x ∷ xs) ys h = (h.0, every_front P xs ys h.1)

  pub every_back : (P : A → Type 0) (xs ys : List A) → Every P (xs ++ ys) → Every P ys
  every_back P [] ys h = h
  every_back P (x ∷ xs) ys h = every_back P xs ys h.1

  pub every_map : (P Q : A → Type 0) → ((x : A) → P x → Q x) → (xs : List A) → Every P xs → Every Q xs
  every_map P Q f [] h = tt
  every_map P Q f (x ∷ xs) h = (f x h.0, every_map P Q f xs h.1)

  pub every_and : (P Q : A → Type 0) (xs : List A) → Every P xs → Every Q xs → Every (λ x. P x × Q x) xs
  every_and P Q [] h k = tt
  every_and P Q (x ∷ xs) h k = ((h.0, k.0), every_and P Q xs h.1 k.1)

  pub every_replicate : (P : A → Type 0) (n : ℕ) (x : A) → P x → Every P (replicate n x)
  every_replicate P zero x h = tt
  every_replicate P (suc n) x h = (h, every_replicate P n x h)

  pub every_at : (P : A → Type 0) (xs : List A) (d : A) (i : ℕ) → Every P xs → i < length xs → P (get_or xs i d)
  every_at P [] d i h l = absurd (not-suc-le-zero l)
  every_at P (x ∷ xs) d zero h l = h.0
  every_at P (x ∷ xs) d (suc i) h l = every_at P xs d i h.1 (le_of_suc-le-suc l)

  pub every_elem : (P : A → Type 0) (xs : List A) (i : ℕ) (x : A) → Every P xs → get_elem? xs i ≡ some x → P x
  every_elem P [] i x h e = absurd (let z : ◌≡◌ {A = ℕ} 0 1 = cc in omega arith)
  every_elem P (y ∷ xs) zero x h e = let z : y ≡ x = cc in rw z at h.0
  every_elem P (y ∷ xs) (suc i) x h e = every_elem P xs i x h.1 e

pub every_image {ℓ κ} : {A : Type ℓ} {B : Type κ} (P : B → Type 0) (f : A → B) (xs : List A) → Every (λ x. P (f x)) xs → Every P (map f xs)
every_image P f [] h = tt
every_image P f (x ∷ xs) h = (h.0, every_image P f xs h.1)
