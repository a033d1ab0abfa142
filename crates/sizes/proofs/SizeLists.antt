-- Lists that have the sizes of nodes.
use mathlib.Core.Path.{◌≡◌, refl, sym, subst, ◌∙◌}
use Prim.Native.Nat.{ℕ, zero, suc, ◌+◌, ◌*◌, ◌≤◌, ◌<◌}
use native.Mathlib.Omega.{arith}
use native.Mathlib.Numerals.{add-one}
use mathlib.Core.List.{List, [], ◌∷◌, ◌++◌}
use lib.ListN.{length, get_or, set, length-set}
use lib.Seq.{sets, length-sets, get_or-set_same, get_or-set_other}
use Rattle.common.proofs.Stores.{sets_first}
use Rattle.sizes.specs.declared.Size.{Size}
use Rattle.sizes.specs.Sizes.{Sizes}
use Rattle.sizes.specs.Listed.{flat}
use Rattle.sizes.specs.Clauses.{put_size, put_sizes, Each, Holds, natural_at, Here}

-- ---- a part of what is held

module _ {ℓ} {A : Type ℓ} (P : A → ℕ → Type 0) where
  pub each_front : (xs ys : List A) (n : ℕ) → Each P (xs ++ ys) n → Each P xs n
  each_front [] ys n h = tt
  each_front (x ∷ xs) ys n h = (h.0, each_front xs ys (suc n) h.1)

  pub each_back : (xs ys : List A) (n m : ℕ) → length xs ≡ m → Each P (xs ++ ys) n → Each P ys (n + m)
  each_back [] ys n m e h = let z : n + m ≡ n = omega arith in rw z h
  each_back (x ∷ xs) ys n m e h = let z : n + m ≡ suc n + length xs = omega arith in rw z (each_back xs ys (suc n) (length xs) refl h.1)

  pub each_with : (Q : A → ℕ → Type 0) → ((x : A) (n : ℕ) → P x n → Q x n) → (xs : List A) (n : ℕ) → Each P xs n → Each Q xs n
  each_with Q f [] n h = tt
  each_with Q f (x ∷ xs) n h = (f x n h.0, each_with Q f xs (suc n) h.1)

  pub each_at : (d : A) (xs : List A) (n i : ℕ) → i < length xs → Each P xs n → P (get_or xs i d) (n + i)
  each_at d [] n i b h = absurd (omega arith)
  each_at d (x ∷ xs) n zero b h = let z : n + 0 ≡ n = omega arith in rw z h.0
  each_at d (x ∷ xs) n (suc i) b h = let z : n + suc i ≡ suc n + i = omega arith in rw z (each_at d xs (suc n) i (omega arith) h.1)

-- ---- a pair stored

put_first : (l : List ℕ) (at : ℕ) (z : Size) → at + 1 < length l → get_or (put_size l at z) at 0 ≡ z.width
put_first l at z h = get_or-set_other (set l at z.width) (suc at) at z.height 0 (λ e. omega arith) ∙ get_or-set_same l at z.width 0 (omega arith)

put_second : (l : List ℕ) (at : ℕ) (z : Size) → at + 1 < length l → get_or (put_size l at z) (at + 1) 0 ≡ z.height
put_second l at z h = rw add-one (get_or-set_same (set l at z.width) (suc at) z.height 0 (rw length-set (omega arith)))

put_other : (l : List ℕ) (at j : ℕ) (z : Size) → (j ≡ at → ⊥) → (j ≡ at + 1 → ⊥) → get_or (put_size l at z) j 0 ≡ get_or l j 0
put_other l at j z a b = get_or-set_other (set l at z.width) (suc at) j z.height 0 (λ e. b (omega arith))
    ∙ get_or-set_other l at j z.width 0 (λ e. a (omega arith))

-- what is before pairs that are stored stays
puts_below : (zs : List Size) (l : List ℕ) (at j : ℕ) → j < at → get_or (put_sizes l at zs) j 0 ≡ get_or l j 0
unfolding put_sizes
puts_below [] l at j h = refl
puts_below (z ∷ zs) l at j h = puts_below zs (put_size l at z) (at + 4) j (omega arith) ∙ put_other l at j z (λ e. omega arith) (λ e. omega arith)

pub puts_length : (zs : List Size) (l : List ℕ) (at : ℕ) → length (put_sizes l at zs) ≡ length l
unfolding put_sizes
puts_length [] l at = refl
puts_length (z ∷ zs) l at = puts_length zs (put_size l at z) (at + 4) ∙ length-sets l at (z.width ∷ z.height ∷ [])

-- ---- natural sizes stored, and kept where allotted ones are

pub stored_holds : (xs : List Size) (l : List ℕ) (node : ℕ) → 4 * (node + length xs) ≤ length l → Holds xs node (put_sizes l (4 * node) xs)
unfolding put_sizes
stored_holds [] l node h = tt
stored_holds (x ∷ xs) l node h =
    let e : 4 * node + 4 ≡ 4 * suc node = omega arith in
    let n = length-sets l (4 * node) (x.width ∷ x.height ∷ []) in (
      rw (
        puts_below xs (put_size l (4 * node) x) (4 * node + 4) (4 * node) (omega arith),
        puts_below xs (put_size l (4 * node) x) (4 * node + 4) (4 * node + 1) (omega arith),
        put_first l (4 * node) x (omega arith),
        put_second l (4 * node) x (omega arith),
      ),
      subst (λ (k : ℕ). Holds xs (suc node) (put_sizes (put_size l (4 * node) x) k xs)) (sym e)
          (stored_holds xs (put_size l (4 * node) x) (suc node) (omega arith)),
    )

-- the number at 4 n + r, r 0 or 1, is no allotted one
allotted_other : (zs : List Size) (l : List ℕ) (at m j n r : ℕ) → at ≡ 4 * m + 2 → j ≡ 4 * n + r → r < 2 → get_or (put_sizes l at zs) j 0 ≡ get_or l j 0
unfolding put_sizes
allotted_other [] l at m j n r e d h = refl
allotted_other (z ∷ zs) l at m j n r e d h =
    allotted_other zs (put_size l at z) (at + 4) (suc m) j n r (omega arith) d h ∙ put_other l at j z (λ b. omega arith) (λ b. omega arith)

pub natural_kept : (zs : List Size) (l : List ℕ) (m n : ℕ) → natural_at (put_sizes l (4 * m + 2) zs) n ≡ natural_at l n
natural_kept zs l m n =
    rw (
      allotted_other zs l (4 * m + 2) m (4 * n) n 0 refl (omega arith) (omega arith),
      allotted_other zs l (4 * m + 2) m (4 * n + 1) n 1 refl refl (omega arith),
    )

pub holds_kept : (xs ys : List Size) (l l₁ : List ℕ) (m node : ℕ) → l₁ ≡ put_sizes l (4 * m + 2) ys → Holds xs node l → Holds xs node l₁
holds_kept xs ys l l₁ m node e h = each_with _ _ (λ z n k. rw e (natural_kept ys l m n ∙ k)) xs node h

-- ---- all numbers

abbrev pub HoldsAll : List Sizes → ℕ → List ℕ → Type 0
HoldsAll zs node l = Each (λ z n. Here z.natural z.allotted n l) zs node

pub stored_all : (zs : List Sizes) (l : List ℕ) (node : ℕ) → 4 * (node + length zs) ≤ length l → HoldsAll zs node (sets l (4 * node) (flat zs))
unfolding flat
stored_all [] l node h = tt
stored_all (z ∷ zs) l node h =
    let a = 4 * node in
    let l1 = set l a z.natural.width in
    let l2 = set l1 (suc a) z.natural.height in
    let l3 = set l2 (suc (suc a)) z.allotted.width in
    let l4 = set l3 (suc (suc (suc a))) z.allotted.height in
    let n1 : length l1 ≡ length l = length-set l a z.natural.width in
    let n2 : length l2 ≡ length l1 = length-set l1 (suc a) z.natural.height in
    let n3 : length l3 ≡ length l2 = length-set l2 (suc (suc a)) z.allotted.width in
    let n4 : length l4 ≡ length l3 = length-set l3 (suc (suc (suc a))) z.allotted.height in
    let n = length-sets l a (flat (z ∷ zs)) in
    let e : suc (suc (suc (suc a))) ≡ 4 * suc node = omega arith in (
      record {
        inside = omega arith;
        natural_is = rw (
          sets_first z.natural.width (z.natural.height ∷ z.allotted.width ∷ z.allotted.height ∷ flat zs) l a a refl (omega arith),
          sets_first z.natural.height (z.allotted.width ∷ z.allotted.height ∷ flat zs) l1 (suc a) (a + 1) (omega arith) (omega arith),
        );
        allotted_is = rw (
          sets_first z.allotted.width (z.allotted.height ∷ flat zs) l2 (suc (suc a)) (a + 2) (omega arith) (omega arith),
          sets_first z.allotted.height (flat zs) l3 (suc (suc (suc a))) (a + 3) (omega arith) (omega arith),
        );
      },
      subst (λ (k : ℕ). HoldsAll zs (suc node) (sets l4 k (flat zs))) (sym e) (stored_all zs l4 (suc node) (omega arith)),
    )

-- the sizes of node i
pub here_at : (zs : List Sizes) (l₀ l : List ℕ) → l ≡ sets l₀ 0 (flat zs) → 4 * length zs ≤ length l₀ → (d : Sizes) (i : ℕ) → i < length zs
    → Here (get_or zs i d).natural (get_or zs i d).allotted i l
here_at zs l₀ l e h d i b =
    let n : 0 + i ≡ i = omega arith in
    rw e (rw n at (each_at (λ z n. Here z.natural z.allotted n (sets l₀ 0 (flat zs))) d zs 0 i b (stored_all zs l₀ 0 (omega arith))))
