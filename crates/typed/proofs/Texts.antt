-- Texts as they are typed, byte by byte.
use mathlib.Core.Path.{◌≡◌, refl, sym, ap, ◌∙◌}
use Prim.Native.Nat.{ℕ, suc, ◌+◌, ◌≤◌, ◌<◌}
use native.Mathlib.Omega.{arith}
use native.Mathlib.Numerals.{add-one}
use mathlib.Core.Bool.{Bool, true, false, not}
use mathlib.Core.List.{List, [], ◌∷◌}
use lib.ListN.{length, get_or, drop, set, length-set, drop_of_length-le}
use lib.Seq.{drop-cons, sets}
use lib.Dec.{eqb, ltb}
use Rattle.std.specs.Prelude.{Option, Some, None, is_some, Result, Ok, Err}
use mir.Val.{bool_byte}
use Rattle.common.specs.Choice.{pick}
use Rattle.common.specs.Refusals.{refusal_of}
use Rattle.common.specs.declared.refusal.Refusal.{Refusal}
use Rattle.tree.specs.Reading.{is_text, is_text_byte}
use Rattle.typed.specs.Text.{Byte, Put, Escape, Wrong, byte_of, Text, wrong, text, putting, later_text, ended_text, text_from, typed_text}
use Rattle.typed.specs.Clauses.{misread, put_of, checked_text, Good}
use Rattle.typed.specs.declared.typed_text.Misread.{Misread}

-- ---- one byte

-- a wrong byte's fault is 31 or 32
abbrev ByteFault : Byte → Type 0
ByteFault (Put c) = Unit
ByteFault Escape = Unit
ByteFault (Wrong k) = (31 ≤ k) × (k ≤ 32)

one_of_three : (p q r : Bool) (b : ℕ) → ByteFault (pick p Escape (pick q (Wrong 31) (pick r (Wrong 31) (Put b))))
one_of_three true q r b = tt
one_of_three false true r b = (omega arith, omega arith)
one_of_three false false true b = (omega arith, omega arith)
one_of_three false false false b = tt

one_escape : (p q : Bool) → ByteFault (pick p (Put 10) (pick q (Put 92) (Wrong 32)))
one_escape true q = tt
one_escape false true = tt
one_escape false false = (omega arith, omega arith)

byte_fault : (e : Bool) (b : ℕ) → ByteFault (byte_of e b)
unfolding byte_of
byte_fault true b = one_escape (eqb b 110) (eqb b 92)
byte_fault false b = one_of_three (eqb b 92) (ltb b 32) (ltb 126 b) b

byte_wrong : (e : Bool) (b k : ℕ) → byte_of e b ≡ Wrong k → (31 ≤ k) × (k ≤ 32)
byte_wrong e b k h = rw h at (byte_fault e b)

pub text_put : (e : Bool) (b c : ℕ) (s : List ℕ) → byte_of e b ≡ Put c → text_from e (b ∷ s) ≡ putting c (text_from false s)
unfolding text_from
text_put e b c s h = rw (h, text_from)

pub text_escape : (e : Bool) (b : ℕ) (s : List ℕ) → byte_of e b ≡ Escape → text_from e (b ∷ s) ≡ later_text (text_from true s)
unfolding text_from
text_escape e b s h = rw (h, text_from)

text_wrong : (e : Bool) (b k : ℕ) (s : List ℕ) → byte_of e b ≡ Wrong k → text_from e (b ∷ s) ≡ wrong k 0
unfolding text_from
text_wrong e b k s h = rw (h, text_from)

text_end_lem : (e : Bool) (s : List ℕ) (i : ℕ) → length s ≤ i → text_from e (drop i s) ≡ ended_text e
unfolding text_from
text_end_lem e s i h = rw (drop_of_length-le s h)

-- what the code's answer shows of a byte
pub put_is : (x : Byte) (c : ℕ) → Ok (Some c) ≡ put_of x → x ≡ Put c
put_is (Put b) c h = cc
put_is Escape c h = cc
put_is (Wrong k) c h = cc

pub escape_is : (x : Byte) → Ok None ≡ put_of x → x ≡ Escape
escape_is (Put b) h = cc
escape_is Escape h = refl
escape_is (Wrong k) h = cc

pub record WrongIs (x : Byte) (f : Refusal) : Type 0 where
  pub number : ℕ
  pub is : x ≡ Wrong number
  pub refusal_is : f ≡ refusal_of number

pub wrong_is : (x : Byte) (f : Refusal) → Err f ≡ put_of x → WrongIs x f
wrong_is (Put b) f h = cc
wrong_is Escape f h = cc
wrong_is (Wrong k) f h = record { number = k; is = refl; refusal_is = cc }

-- ---- counting: i bytes are read, which put n

abbrev count_all : ℕ → ℕ → Text → Result ℕ Misread
count_all i n (wrong k j) = Err (misread k (i + j + 1))
count_all i n (text t) = Ok (n + length t)

all_put : (i n c : ℕ) (t : Text) → count_all i n (putting c t) ≡ count_all (i + 1) (n + 1) t
all_put i n c (wrong k j) = ap (λ (m : ℕ). Err (misread k m)) (omega arith)
all_put i n c (text t) = ap Ok (omega arith)

all_later : (i n : ℕ) (t : Text) → count_all i n (later_text t) ≡ count_all (i + 1) n t
all_later i n (wrong k j) = ap (λ (m : ℕ). Err (misread k m)) (omega arith)
all_later i n (text t) = refl

none_counted : (t : Text) → checked_text t ≡ count_all 0 0 t
none_counted (wrong k j) = ap (λ (m : ℕ). Err (misread k m)) (omega arith)
none_counted (text t) = ap Ok (omega arith)

pub record CountedText (s : List ℕ) (e : Bool) (n i : ℕ) : Type 0 where
  pub few : n ≤ i
  pub all : checked_text (typed_text s) ≡ count_all i n (text_from e (drop i s))

pub counted_none : (s : List ℕ) → CountedText s false 0 0
counted_none s = record { few = omega arith; all = none_counted (typed_text s) }

from_cons : (s : List ℕ) (e : Bool) (i : ℕ) → i < length s → text_from e (drop i s) ≡ text_from e (get_or s i 0 ∷ drop (i + 1) s)
from_cons s e i h = rw (drop-cons s i 0 h, add-one i)

module _ (s : List ℕ) (e : Bool) (n i : ℕ) (k : CountedText s e n i) (h : i < length s) where
  pub counted_on : (put : Option ℕ) (e' : Bool) → Ok put ≡ put_of (byte_of e (get_or s i 0)) → is_some put ≡ not e'
      → CountedText s e' (n + bool_byte (is_some put)) (i + 1)
  counted_on (Some c) false q z =
      let b = put_is (byte_of e (get_or s i 0)) c q in
      record {
        few = omega (arith, k.few);
        all = k.all
            ∙ ap (count_all i n) (from_cons s e i h ∙ text_put e (get_or s i 0) c (drop (i + 1) s) b) ∙ all_put i n c (text_from false (drop (i + 1) s));
      }
  counted_on (Some c) true q z = cc
  counted_on None true q z =
      let b = escape_is (byte_of e (get_or s i 0)) q in
      record {
        few = omega (arith, k.few);
        all = k.all
            ∙ ap (count_all i n) (from_cons s e i h ∙ text_escape e (get_or s i 0) (drop (i + 1) s) b) ∙ all_later i n (text_from true (drop (i + 1) s))
            ∙ ap (λ (m : ℕ). count_all (i + 1) m (text_from true (drop (i + 1) s))) (omega arith);
      }
  counted_on None false q z = cc

  pub counted_stop : (f : Refusal) → Err f ≡ put_of (byte_of e (get_or s i 0)) → Err (record { refusal = f; column = i + 1 }) ≡ checked_text (typed_text s)
  counted_stop f q =
      let w = wrong_is (byte_of e (get_or s i 0)) f q in
      ap (λ (r : Refusal). Err (record { refusal = r; column = i + 1 })) w.refusal_is
      ∙ ap (λ (m : ℕ). Err (misread w.number (m + 1))) (omega arith)
      ∙ sym (k.all ∙ ap (count_all i n) (from_cons s e i h ∙ text_wrong e (get_or s i 0) w.number (drop (i + 1) s) w.is))

module _ (s : List ℕ) (e : Bool) (n i : ℕ) (k : CountedText s e n i) (h : i ≡ length s) where
  pub counted_open : e ≡ true → Err (misread 32 (length s + 1)) ≡ checked_text (typed_text s)
  counted_open t = sym (k.all ∙ ap (count_all i n) (text_end_lem e s i (omega arith) ∙ ap ended_text t) ∙ ap (λ (m : ℕ). Err (misread 32 m)) (omega arith))

  pub counted_all : e ≡ false → Ok n ≡ checked_text (typed_text s)
  counted_all t = sym (k.all ∙ ap (count_all i n) (text_end_lem e s i (omega arith) ∙ ap ended_text t) ∙ ap Ok (omega arith))

-- ---- writing

record TextFront (c : ℕ) (t : Text) (l : List ℕ) : Type 0 where
  left : List ℕ
  is : t ≡ text left
  whole : l ≡ c ∷ left

text_front : (c : ℕ) (t : Text) (l : List ℕ) → putting c t ≡ text l → TextFront c t l
text_front c (wrong k i) l h = cc
text_front c (text t) l h = record { left = t; is = refl; whole = cc }

later_of : (t : Text) (l : List ℕ) → later_text t ≡ text l → t ≡ text l
later_of (wrong k i) l h = cc
later_of (text t) l h = h

-- what is left to write, once written, makes the whole
pub record TextLeft (s o₀ o : List ℕ) (at : ℕ) (e : Bool) (p i : ℕ) : Type 0 where
  pub left : List ℕ
  pub is : text_from e (drop i s) ≡ text left
  pub fits : p + length left ≤ length o
  pub rest : (t : List ℕ) → typed_text s ≡ text t → sets o₀ at t ≡ sets o p left

text_same : (x : Text) (t u : List ℕ) → x ≡ text t → x ≡ text u → t ≡ u
text_same x t u p q = cc

pub text_left_all : (s o : List ℕ) (at : ℕ) → Good s at (length o) → TextLeft s o o at false at 0
text_left_all s o at g = record {
  left = g.of;
  is = g.is;
  fits = g.fits;
  rest = λ t h. ap (λ (u : List ℕ). sets o at u) (text_same (typed_text s) t g.of h g.is);
}

module _ (s o₀ o : List ℕ) (at : ℕ) (e : Bool) (p i : ℕ) (k : TextLeft s o₀ o at e p i) (h : i < length s) where
  here : text_from e (get_or s i 0 ∷ drop (i + 1) s) ≡ text k.left
  here = sym (from_cons s e i h) ∙ k.is

  left_front : (c : ℕ) → Ok (Some c) ≡ put_of (byte_of e (get_or s i 0)) → TextFront c (text_from false (drop (i + 1) s)) k.left
  left_front c q =
      let b = put_is (byte_of e (get_or s i 0)) c q in
      text_front c (text_from false (drop (i + 1) s)) k.left (sym (text_put e (get_or s i 0) c (drop (i + 1) s) b) ∙ here)

  pub left_room : (c : ℕ) → Ok (Some c) ≡ put_of (byte_of e (get_or s i 0)) → p < length o
  left_room c q = let f = left_front c q in omega (arith, k.fits, ap length f.whole)

  pub left_put : (c : ℕ) → Ok (Some c) ≡ put_of (byte_of e (get_or s i 0)) → TextLeft s o₀ (set o p c) at false (p + 1) (i + 1)
  left_put c q =
      let f = left_front c q in
      record {
        left = f.left;
        is = f.is;
        fits = omega (arith, k.fits, ap length f.whole, length-set o p c);
        rest = λ t q. k.rest t q ∙ ap (λ (u : List ℕ). sets o p u) f.whole ∙ ap (λ (m : ℕ). sets (set o p c) m f.left) (sym (add-one p));
      }

  pub left_escape : Ok None ≡ put_of (byte_of e (get_or s i 0)) → TextLeft s o₀ o at true p (i + 1)
  left_escape q =
      let b = escape_is (byte_of e (get_or s i 0)) q in
      record {
        left = k.left;
        is = later_of (text_from true (drop (i + 1) s)) k.left (sym (text_escape e (get_or s i 0) (drop (i + 1) s) b) ∙ here);
        fits = k.fits;
        rest = k.rest;
      }

  pub left_wrong : (f : Refusal) → Err f ≡ put_of (byte_of e (get_or s i 0)) → ⊥
  left_wrong f q =
      let w = wrong_is (byte_of e (get_or s i 0)) f q in
      let z : wrong w.number 0 ≡ text k.left = sym (text_wrong e (get_or s i 0) w.number (drop (i + 1) s) w.is) ∙ here in
      cc

pub text_left_none : (s o₀ o : List ℕ) (at : ℕ) (e : Bool) (p i : ℕ) → TextLeft s o₀ o at e p i → i ≡ length s → (t : List ℕ) → typed_text s ≡ text t
    → o ≡ sets o₀ at t
text_left_none s o₀ o at e p i k h t q = go e (text_end_lem e s i (omega arith)) k.is
  where
    go : (e : Bool) → text_from e (drop i s) ≡ ended_text e → text_from e (drop i s) ≡ text k.left → o ≡ sets o₀ at t
    go true x y = cc
    go false x y = let z : [] ≡ k.left = cc in sym (k.rest t q ∙ ap (λ (u : List ℕ). sets o p u) (sym z))

-- ---- where a fault is, and how long a text is

-- fault k after i of n bytes: 31 at a byte, 32 at one or at the end
pub record WrongAt (n k i : ℕ) : Type 0 where
  pub low : 31 ≤ k
  pub high : k ≤ 32
  pub within : i ≤ n
  pub on_byte : (k ≡ 32 → ⊥) → i < n

-- a text is no longer than it is typed
abbrev TextIn : ℕ → Text → Type 0
TextIn n (wrong k i) = WrongAt n k i
TextIn n (text t) = length t ≤ n

in_putting : (c n : ℕ) (t : Text) → TextIn n t → TextIn (suc n) (putting c t)
in_putting c n (wrong k i) w = record { low = w.low; high = w.high; within = omega (arith, w.within); on_byte = λ e. omega (arith, w.on_byte e) }
in_putting c n (text t) h = omega arith

in_later : (n : ℕ) (t : Text) → TextIn n t → TextIn (suc n) (later_text t)
in_later n (wrong k i) w = in_putting 0 n (wrong k i) w
in_later n (text t) h = omega arith

in_ended : (e : Bool) → TextIn 0 (ended_text e)
in_ended true = record { low = omega arith; high = omega arith; within = omega arith; on_byte = λ e. absurd (e refl) }
in_ended false = omega arith

each_text_in : (e : Bool) (s : List ℕ) → TextIn (length s) (text_from e s)
unfolding text_from
each_text_in e [] = in_ended e
each_text_in e (b ∷ s) = go (byte_of e b) refl (each_text_in true s) (each_text_in false s)
  where
    go : (x : Byte) → byte_of e b ≡ x → TextIn (length s) (text_from true s) → TextIn (length s) (text_from false s)
        → TextIn (suc (length s)) (text_from e (b ∷ s))
    go (Put c) h p q = rw (text_put e b c s h) (in_putting c (length s) (text_from false s) q)
    go Escape h p q = rw (text_escape e b s h) (in_later (length s) (text_from true s) p)
    go (Wrong k) h p q =
        let w = byte_wrong e b k h in
        rw (text_wrong e b k s h) (record { low = w.0; high = w.1; within = omega arith; on_byte = λ z. omega arith })

pub text_fault : (s : List ℕ) (k i : ℕ) → typed_text s ≡ wrong k i → WrongAt (length s) k i
text_fault s k i h = rw h at (each_text_in false s)

pub text_short : (s t : List ℕ) → typed_text s ≡ text t → length t ≤ length s
text_short s t h = rw h at (each_text_in false s)

-- ---- a text has allowed bytes only

put_fair : (e : Bool) (b c : ℕ) → byte_of e b ≡ Put c → is_text_byte c ≡ true
unfolding byte_of
put_fair true b c h = go (eqb b 110) (eqb b 92) h
  where
    go : (p q : Bool) → pick p (Put 10) (pick q (Put 92) (Wrong 32)) ≡ Put c → is_text_byte c ≡ true
    go true q h = let z : 10 ≡ c = cc in rw (sym z) refl
    go false true h = let z : 92 ≡ c = cc in rw (sym z) refl
    go false false h = cc
put_fair false b c h = go (eqb b 92) (ltb b 32) (ltb 126 b) refl refl h
  where
    go : (p q r : Bool) → ltb b 32 ≡ q → ltb 126 b ≡ r → pick p Escape (pick q (Wrong 31) (pick r (Wrong 31) (Put b))) ≡ Put c → is_text_byte c ≡ true
    go true q r x y h = cc
    go false true r x y h = cc
    go false false true x y h = cc
    go false false false x y h = let z : b ≡ c = cc in rw (sym z) (rw (x, y) (same (eqb b 10)))
      where
        same : (p : Bool) → pick p true true ≡ true
        same true = refl
        same false = refl

abbrev pub FairIs : Text → Type 0
FairIs (wrong k i) = Unit
FairIs (text t) = is_text t ≡ true

fair_putting : (c : ℕ) (t : Text) → is_text_byte c ≡ true → FairIs t → FairIs (putting c t)
unfolding is_text
fair_putting c (wrong k i) b h = tt
fair_putting c (text t) b h = rw b h

fair_later : (t : Text) → FairIs t → FairIs (later_text t)
fair_later (wrong k i) h = tt
fair_later (text t) h = h

fair_ended : (e : Bool) → FairIs (ended_text e)
unfolding is_text
fair_ended true = tt
fair_ended false = refl

pub texts_fair : (e : Bool) (s : List ℕ) → FairIs (text_from e s)
unfolding text_from
texts_fair e [] = fair_ended e
texts_fair e (b ∷ s) = go (byte_of e b) refl (texts_fair true s) (texts_fair false s)
  where
    go : (x : Byte) → byte_of e b ≡ x → FairIs (text_from true s) → FairIs (text_from false s) → FairIs (text_from e (b ∷ s))
    go (Put c) h p q = rw (text_put e b c s h) (fair_putting c (text_from false s) (put_fair e b c h) q)
    go Escape h p q = rw (text_escape e b s h) (fair_later (text_from true s) p)
    go (Wrong k) h p q = rw (text_wrong e b k s h) tt
