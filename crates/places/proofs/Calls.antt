-- What the call answers, from the sizes that were measured and what the walk wrote.
use mathlib.Core.Path.{◌≡◌, refl, sym, ap, ◌∙◌}
use Prim.Native.Nat.{ℕ, ◌+◌, ◌*◌, ◌/◌, ◌%◌, ◌<◌}
use native.Mathlib.Omega.{arith}
use mathlib.Core.List.{List, [], ◌∷◌, map}
use lib.ListN.{length, get_or}
use borrow.Author.Tests.{ne_eqb}
use Rattle.settings.specs.declared.Settings.{Settings}
use Rattle.tree.specs.Tree.{Tree}
use Rattle.sizes.specs.declared.Measured.{Measured}
use Rattle.sizes.specs.declared.Size.{Size}
use Rattle.sizes.specs.Sizes.{sep}
use Rattle.sizes.specs.Clauses.{natural_at}
use Rattle.sizes.proofs.WholeTree.{here_of}
use Rattle.sizes.specs.Input.{Input, refused, given, input_of}
use Rattle.sizes.proofs.MeasuredInput.{Takes, takes}
use Rattle.sizes.proofs.Separator.{sep_small}
use Rattle.frame.specs.declared.Frame.{Frame}
use Rattle.frame.specs.Frame.{W, H, too_large}
use Rattle.frame.specs.Clauses.{frame_of}
use Rattle.frame.proofs.Sheets.{frame_is, large_no}
use Rattle.places.specs.declared.LeafPlace.{LeafPlace}
use Rattle.places.specs.Words.{line_of, column_of, answer_word, place_word}
use Rattle.places.specs.Places.{areas, fault_of, no_leaf_place, leaf_place_in, leaf_place_of}
use Rattle.places.specs.Locating.{locate, root_anchor}
use Rattle.places.specs.Clauses.{checked_of, Frames, TreeAsks, Locates}
use Rattle.places.specs.Promises.{unpacked}
use Rattle.places.proofs.Owners.{Owners, own_word, answers_are}
use Rattle.places.proofs.Reverse.{within_sheet, forward_at, number_is, word_owned}
use Rattle.places.proofs.Checked.{Checked, refusal_chosen}
use Rattle.places.proofs.Roots.{areas_are}

-- ---- in the call's terms: m is what was measured

module _ {bs ts : List ℕ} {m : Measured} {sizes : List ℕ} (q : Checked bs ts m sizes) where
  abbrev s : Settings
  s = m.settings

  abbrev t : Tree
  t = q.tree

  accepted : Takes ts s t
  accepted = takes bs ts s t q.input

  pub frames : (z : Size) → z ≡ natural_at sizes 0 → (f : Frame) → f ≡ frame_of s z → Frames s.margin f s t
  frames z ze f e = record { margin = refl; frame = e ∙ frame_is s t z (ze ∙ (here_of s t _ 0 sizes q.listed).natural_is) }

  pub tree_asks : (lp lf : ℕ) → lf ≡ lp → TreeAsks ts s lp lf
  tree_asks lp lf e = record {
    tree = t;
    is = accepted.got.is;
    ends = accepted.got.ends;
    few = accepted.got.few;
    thin = sep_small s;
    top = accepted.ranges.margin_top;
    left = accepted.ranges.margin_left;
    same = e;
  }

  pub tree_walked : {lp lf : ℕ} (e : lf ≡ lp) {ps : List ℕ} {n : ℕ} {f₀ f : List ℕ}
      → Locates (locate (sep s) sizes (tree_asks lp lf e).tree 0 (root_anchor s)) ps n f₀ f
      → Locates (locate (sep s) sizes t 0 (root_anchor s)) ps n f₀ f
  unfolding tree_asks
  tree_walked e k = k

  -- where each place has an owner, the walk has written the owners' answers
  pub owners_answer : (ps : List ℕ) (n : ℕ) (f₀ f : List ℕ) → length f₀ ≡ length ps → Owners (areas s t) ps
      → Locates (locate (sep s) sizes t 0 (root_anchor s)) ps n f₀ f → f ≡ map (own_word (areas s t)) ps
  owners_answer ps n f₀ f e o k = k.answers_are ∙ rw (areas_are s t sizes q.listed) (answers_are (areas s t) ps f₀ e o)

-- ---- one place

place_no : (x : Input) (l k : ℕ) (m : Measured) → m ≡ checked_of x → (m.number ≡ 0 → ⊥) → leaf_place_of x l k ≡ no_leaf_place m.number
unfolding leaf_place_of checked_of
place_no (refused n) l k m e h = rw e
place_no (given s t) l k m e h = refusal_chosen (too_large s t) no_leaf_place (leaf_place_in s t l k) m.number (ap (λ (y : Measured). y.number) e) h

pub place_refused : (bs ts : List ℕ) (l k : ℕ) (m : Measured) → m ≡ checked_of (input_of bs ts) → (m.number ≡ 0 → ⊥)
    → leaf_place_of (input_of bs ts) l k ≡ no_leaf_place m.number
place_refused bs ts l k m e h = place_no (input_of bs ts) l k m e h

unpack_fields : (n l k : ℕ) → l < 65536 → k < 65536 → unpacked (answer_word n l k) ≡ record { number = 0; node = n; line = l; column = k }
unpack_fields n l k a b =
    let x : (n * 4294967296 + l * 65536 + k) / 4294967296 ≡ n = omega arith in
    let y : (n * 4294967296 + l * 65536 + k) / 65536 % 65536 ≡ l = omega arith in
    let z : (n * 4294967296 + l * 65536 + k) % 65536 ≡ k = omega arith in
    rw (x, y, z)

pub unpack_same : (r : LeafPlace) → r.number ≡ 0 → r.line < 65536 → r.column < 65536 → unpacked (place_word r) ≡ r
unpack_same r e a b = unpack_fields r.node r.line r.column a b
    ∙ ap (λ (x : ℕ). record { number = x; node = r.node; line = r.line; column = r.column }) (sym e)

word_place : (l k : ℕ) → k < 4294967296 → (line_of (l * 4294967296 + k) ≡ l) × (column_of (l * 4294967296 + k) ≡ k)
word_place l k h = (omega arith, omega arith)

module _ {bs ts : List ℕ} {m : Measured} {sizes : List ℕ} (q : Checked bs ts m sizes) (z : Size) (ze : z ≡ natural_at sizes 0) (f : Frame)
    (fe : f ≡ frame_of m.settings z) (l k n : ℕ)
    (e : (s : Settings) (t : Tree) → Frames m.settings.margin f s t → n ≡ fault_of s t l k) where
  in_sheet : leaf_place_of (input_of bs ts) l k ≡ leaf_place_in (s q) (t q) l k
  unfolding leaf_place_of
  in_sheet = rw (q.input, q.large)

  fault : fault_of (s q) (t q) l k ≡ n
  fault = sym (e (s q) (t q) (frames q z ze f fe))

  pub place_fault : (n ≡ 0 → ⊥) → leaf_place_of (input_of bs ts) l k ≡ no_leaf_place n
  unfolding leaf_place_in
  place_fault h = in_sheet ∙ rw (fault, ne_eqb n 0 h)

  module _ (h : n ≡ 0) where
    -- a place that is not refused is small
    pub place_low : (l < 160) × (k < 400)
    unfolding too_large W H
    place_low =
        let w = within_sheet (s q) (t q) l k (fault ∙ h) in
        let x = large_no (W (s q) (t q)) (H (s q) (t q)) q.large in
        (omega (arith, w.to_line, x.1), omega (arith, w.to_column, x.0))

    inside : let r = leaf_place_in (s q) (t q) l k in (r.line < 65536) × (r.column < 65536)
    inside =
        let x = forward_at (s q) (t q) l k (within_sheet (s q) (t q) l k (fault ∙ h)) (leaf_place_in (s q) (t q) l k) refl in
        (omega (arith, x.line_is, place_low.0), omega (arith, x.column_is, place_low.1))

    -- the place as one number, and its answer, decoded
    module _ (p : ℕ) (pe : p ≡ l * 4294967296 + k) where
      pub place_owners : Owners (areas (s q) (t q)) (p ∷ [])
      place_owners = let w = word_place l k (omega (arith, place_low)) in ((word_owned (s q) (t q) p (rw (pe, w.0, w.1) (fault ∙ h))).owner, tt)

      pub place_found : (fs : List ℕ) → fs ≡ map (own_word (areas (s q) (t q))) (p ∷ []) → unpacked (get_or fs 0 0) ≡ leaf_place_of (input_of bs ts) l k
      place_found fs d =
          let w = word_place l k (omega (arith, place_low)) in
          let le : line_of p ≡ l = rw pe w.0 in
          let ke : column_of p ≡ k = rw pe w.1 in
          let a = word_owned (s q) (t q) p (rw (le, ke) (fault ∙ h)) in
          let r : get_or fs 0 0 ≡ place_word (leaf_place_in (s q) (t q) l k) = rw d (rw (le, ke) at a.word) in
          rw r (unpack_same (leaf_place_in (s q) (t q) l k) (number_is (s q) (t q) l k ∙ fault ∙ h) inside.0 inside.1) ∙ sym in_sheet
