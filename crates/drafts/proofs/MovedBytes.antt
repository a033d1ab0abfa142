-- Bytes moved down, cleared and put over others.
use mathlib.Core.Path.{◌≡◌, sym, ap, ap₂, ◌∙◌}
use Prim.Native.Nat.{ℕ, suc, ◌+◌, ◌-◌, ◌/◌, ◌%◌, ◌≤◌, ◌<◌}
use native.Mathlib.Omega.{arith}
use native.Mathlib.Numerals.{add-one}
use mathlib.Core.List.{List, [], ◌∷◌, ◌++◌, append_assoc, append-nil}
use lib.ListN.{length, get_or, set, take, drop, replicate, length-append, length-drop, length-set, drop_of_length-le}
use lib.ListN.{take-append-drop, replicate-append-replicate}
use native.Mathlib.Nat.{add-suc}
use borrow.Rule.Slice.PartMut.{put_mid}
use Rattle.common.proofs.Copies.{Copied, copied_none, copied_more, copied_all, copied_after}
use Rattle.tree.specs.Accepted.{element}
use lib.Seq.{get_or-drop, sets, sets-eq, set_split, set_at, drop-cons, paste, length-paste, take-paste, take_at, drop_at, take_all, length-take-le, take-take}
use lib.Seq.{drop-drop, drop-append-le}

-- ---- down over a gap

module _ (d : List ℕ) (at size : ℕ) (h : at + size ≤ length d) where
  pub down_none : Copied d at (drop (at + size) d) d 0
  down_none = copied_none d at (drop (at + size) d) (omega (arith, length-drop (at + size) d))

  pub down_more : (s : List ℕ) (j : ℕ) → Copied d at (drop (at + size) d) s j → j < length d - (at + size)
      → Copied d at (drop (at + size) d) (set s (at + j) (get_or s (at + size + j) 0)) (j + 1)
  down_more s j k l =
      let n = k.long in
      let e : at + size + j ≡ at + j + size = omega arith in
      copied_more d at (drop (at + size) d) s j k (omega (arith, length-drop (at + size) d)) (get_or s (at + size + j) 0)
      (rw e (copied_after d at (drop (at + size) d) s j k size) ∙ ap (λ (i : ℕ). get_or d i 0) (sym e) ∙ sym (get_or-drop (at + size) d j 0))

  pub down_all : (s : List ℕ) (j : ℕ) → Copied d at (drop (at + size) d) s j → length d - (at + size) ≤ j
      → s ≡ paste d at (drop (at + size) d) (length d - (at + size))
  down_all s j k l =
      let n = k.long in
      rw (length-drop (at + size) d) at (copied_all d at (drop (at + size) d) s j k (omega (arith, length-drop (at + size) d)))

-- ---- the gap closed

pub gap_closed : (d : List ℕ) (at size : ℕ) (s z : List ℕ) → at + size ≤ length d → s ≡ paste d at (drop (at + size) d) (length d - (at + size))
    → z ≡ replicate (length s - (length s - size)) 0
    → put_mid (length s - size) (length s - (length s - size)) s z ≡ take at d ++ (drop (at + size) d ++ replicate size 0)
gap_closed d at size s z h p q =
    let l : length s ≡ length d = ap length p
    ∙ length-paste d at (drop (at + size) d) (length d - (at + size)) (omega arith) (omega (arith, length-drop (at + size) d)) in
    let n : length s - (length s - size) ≡ size = omega arith in
    let a : length s - size ≡ at + (length d - (at + size)) = omega arith in
    let t : take (length s - size) s ≡ take at d ++ drop (at + size) d =
    ap₂ take a p ∙ take-paste d at (drop (at + size) d) (length d - (at + size)) (omega arith) (omega (arith, length-drop (at + size) d))
    ∙ ap (λ (x : List ℕ). take at d ++ x) (take_all (length d - (at + size)) (drop (at + size) d) (omega (arith, length-drop (at + size) d))) in
    let e : put_mid (length s - size) (length s - (length s - size)) s z ≡ take (length s - size) s ++ (z ++ []) =
    ap (λ (x : List ℕ). take (length s - size) s ++ (z ++ x))
    (drop_of_length-le (drop (length s - size) s) {i = length s - (length s - size)} (omega (arith, length-drop (length s - size) s))) in
    e ∙ rw (append-nil z, t, q, n) (append_assoc (take at d) (drop (at + size) d) (replicate size 0))

pub nothing_out : (d : List ℕ) (at size : ℕ) → size ≡ 0 → d ≡ take at d ++ (drop (at + size) d ++ replicate size 0)
nothing_out d at size h =
    let e : at + 0 ≡ at = omega arith in
    rw (h, e) (sym (ap (λ (l : List ℕ). take at d ++ l) (append-nil (drop at d)) ∙ take-append-drop at d))

-- a gap among the first bytes of d, with zero bytes behind them
pub part_out : (d g : List ℕ) (at size used : ℕ) → at + size ≤ used → used ≤ length d → drop used d ≡ replicate (length d - used) 0
    → g ≡ take at (take used d) ++ (drop (at + size) (take used d) ++ replicate size 0)
    → g ++ drop used d ≡ take at d ++ (drop (at + size) d ++ replicate size 0)
part_out d g at size used h k z q =
    let l : length (take used d) ≡ used = length-take-le used d k in
    let w : take used d ++ drop used d ≡ d = take-append-drop used d in
    let a : take at (take used d) ≡ take at d = take-take at used d (omega arith) in
    let b : drop (at + size) d ≡ drop (at + size) (take used d) ++ drop used d = ap (drop (at + size)) (sym w)
    ∙ drop-append-le (at + size) (take used d) (drop used d) (omega arith) in
    let m = drop (at + size) (take used d) in
    let k = length d - used in
    let n : size + k ≡ k + size = omega arith in
    let s : replicate {A = ℕ} size 0 ++ replicate k 0 ≡ replicate k 0 ++ replicate size 0 = replicate-append-replicate size k 0
    ∙ ap (λ (i : ℕ). replicate i 0) n ∙ sym (replicate-append-replicate k size 0) in
    rw (b, q, a, z)
    (append_assoc (take at d) (m ++ replicate size 0) (replicate k 0)
    ∙ ap (λ (l : List ℕ). take at d ++ l)
    (append_assoc m (replicate size 0) (replicate k 0) ∙ ap (λ (l : List ℕ). m ++ l) s ∙ sym (append_assoc m (replicate k 0) (replicate size 0))))

-- ---- a field put over others

front_put : (d : List ℕ) (at a b c : ℕ) → at + 3 ≤ length d → set (set (set d at a) (at + 1) b) (at + 2) c ≡ take at d ++ (a ∷ b ∷ c ∷ drop (at + 3) d)
front_put d at a b c h =
    let e₁ : set d at a ≡ take at d ++ (a ∷ drop (at + 1) d) = rw (add-one at) (set_split d at a (omega arith)) in
    let e₂ : drop (at + 1) d ≡ get_or d (at + 1) 0 ∷ drop (at + 2) d = drop_next d at 1 (omega arith) in
    let e₃ : drop (at + 2) d ≡ get_or d (at + 2) 0 ∷ drop (at + 3) d = drop_next d at 2 (omega arith) in
    let l : length (take at d) ≡ at = length-take-le at d (omega arith) in
    let f₁ : set d at a ≡ (take at d ++ (a ∷ [])) ++ (get_or d (at + 1) 0 ∷ drop (at + 2) d) = e₁ ∙ rw (e₂, append_assoc) in
    let l₁ : length (take at d ++ (a ∷ [])) ≡ at + 1 = length-append (take at d) (a ∷ []) ∙ ap (λ (n : ℕ). n + 1) l in
    let f₂ : set (set d at a) (at + 1) b ≡ (take at d ++ (a ∷ [])) ++ (b ∷ drop (at + 2) d) =
    rw f₁ (set_at (take at d ++ (a ∷ [])) (get_or d (at + 1) 0) (drop (at + 2) d) b (at + 1) l₁) in
    let f₃ : set (set d at a) (at + 1) b ≡ (take at d ++ (a ∷ b ∷ [])) ++ (get_or d (at + 2) 0 ∷ drop (at + 3) d) = f₂ ∙ rw (e₃, append_assoc, append_assoc) in
    let l₂ : length (take at d ++ (a ∷ b ∷ [])) ≡ at + 2 = length-append (take at d) (a ∷ b ∷ []) ∙ ap (λ (n : ℕ). n + 2) l in
    rw f₃ (set_at (take at d ++ (a ∷ b ∷ [])) (get_or d (at + 2) 0) (drop (at + 3) d) c (at + 2) l₂
    ∙ append_assoc (take at d) (a ∷ b ∷ []) (c ∷ drop (at + 3) d))
  where
    drop_next : (d : List ℕ) (at k : ℕ) → at + k < length d → drop (at + k) d ≡ get_or d (at + k) 0 ∷ drop (at + suc k) d
    drop_next d at k h = rw (add-suc at k) (drop-cons d (at + k) 0 h)

pub field_put : (d t s e : List ℕ) (at tag : ℕ) → at + (3 + length t) ≤ length d → length t ≤ 65535
    → s ≡ set (set (set d at tag) (at + 1) (length t / 256 % 256)) (at + 2) (length t % 256) → e ≡ sets s (at + 3) t
    → e ≡ take at d ++ (element tag t ++ drop (at + (3 + length t)) d)
field_put d t s e at tag h small p q =
    let n : length t / 256 % 256 ≡ length t / 256 = omega arith in
    let r : s ≡ take at d ++ (tag ∷ (length t / 256) ∷ (length t % 256) ∷ drop (at + 3) d) = p
    ∙ front_put d at tag (length t / 256 % 256) (length t % 256) (omega arith) ∙ rw n in
    let l : length (take at d) ≡ at = length-take-le at d (omega arith) in
    let f : List ℕ = take at d ++ (tag ∷ (length t / 256) ∷ (length t % 256) ∷ []) in
    let r₂ : s ≡ f ++ drop (at + 3) d = r ∙ rw append_assoc in
    let lf : length f ≡ at + 3 = length-append (take at d) (tag ∷ (length t / 256) ∷ (length t % 256) ∷ []) ∙ ap (λ (k : ℕ). k + 3) l in
    let a : take (at + 3) s ≡ f = rw r₂ (take_at f (drop (at + 3) d) (at + 3) lf) in
    let i : at + 3 + length t ≡ at + (3 + length t) = omega arith in
    let b : drop (at + 3 + length t) s ≡ drop (at + (3 + length t)) d =
    sym (drop-drop (length t) (at + 3) s) ∙ ap (drop (length t)) (rw r₂ (drop_at f (drop (at + 3) d) (at + 3) lf)) ∙ drop-drop (length t) (at + 3) d
    ∙ ap (λ (k : ℕ). drop k d) i in
    let long : length s ≡ length d = ap length p ∙ length-set (set (set d at tag) (at + 1) (length t / 256 % 256)) (at + 2) (length t % 256)
    ∙ length-set (set d at tag) (at + 1) (length t / 256 % 256) ∙ length-set d at tag in
    q ∙ sets-eq t s (at + 3) (omega arith) ∙ rw (a, b)
    (append_assoc f t (drop (at + (3 + length t)) d)
    ∙ append_assoc (take at d) (tag ∷ (length t / 256) ∷ (length t % 256) ∷ []) (t ++ drop (at + (3 + length t)) d))
