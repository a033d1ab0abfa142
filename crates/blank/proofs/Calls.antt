-- `paper_read`, `paper_made`: what follows where the call answers 0.
use mathlib.Core.Path.{◌≡◌, refl, sym, ap, ap₂, subst, ◌∙◌}
use Prim.Native.Nat.{ℕ, suc, ◌<◌}
use native.Mathlib.Omega.{arith}
use mathlib.Core.Bool.{Bool, true, false}
use mathlib.Core.List.{List, [], ◌∷◌}
use lib.ListN.{length, get_or, drop}
use lib.Seq.{take-append_seam}
use lib.Dec.{ltb}
use mir.Syntax.{w8}
use mir.Val.{Fits}
use Rattle.common.specs.Choice.{pick}
use Rattle.common.specs.Every.{Every}
use Rattle.common.specs.Outcome.{Outcome}
use Rattle.tree.specs.Tree.{Tree, nodes}
use Rattle.tree.specs.Reading.{ReadOne, read_tree}
use Rattle.tree.specs.Accepted.{bytes_of}
use Rattle.tree.proofs.Sound.{tree_sound, tree_refusal}
use Rattle.tree.proofs.Complete.{tree_bytes}
use Rattle.blank.specs.Blank.{blanked, cell_flags, dots_for, all_cells, no_blank, blank_in, blank_of}
use Rattle.blank.specs.declared.Blanked.{Blanked}
use Rattle.blank.specs.Paper.{blank_written, PaperRead, PaperOf}
use Rattle.blank.proofs.Lengths.{blanked_length}
use Rattle.tree.proofs.Exact.{tree_exact}
use Rattle.blank.proofs.BlankedTree.{blanked_nodes, blanked_depth, blanked_texts, blanked_alike, blanked_outside}

-- a number that is not a Cell's is 9, an output that is too short 8
zero_is : (c d : Bool) (o : List ℕ) (x : Outcome Blanked (List ℕ)) → (pick c (pick d (no_blank 8 o) x) (no_blank 9 o)).answer.number ≡ 0
    → pick c (pick d (no_blank 8 o) x) (no_blank 9 o) ≡ x
zero_is true true o x h = absurd (omega arith)
zero_is true false o x h = refl
zero_is false d o x h = absurd (omega arith)

-- the blanked tree's bytes are read as the blanked tree, with as many bytes and nodes
pub blanked_reads : (f : ℕ → Bool) (tree : List ℕ) (t : Tree) (z n : ℕ) → read_tree tree ≡ ReadOne.one t z n
    → read_tree (bytes_of (blanked f 0 t)) ≡ ReadOne.one (blanked f 0 t) z n
blanked_reads f tree t z n r =
    let g = tree_sound tree t z n r in
    let sz : length (bytes_of (blanked f 0 t)) ≡ z = blanked_length f t tree g.is g.ends ∙ sym g.size_is in
    let sn : nodes (blanked f 0 t) ≡ n = blanked_nodes f t 0 ∙ sym g.count_is in
    rw (← sz, ← sn)
    (tree_bytes (blanked f 0 t) (omega (arith, g.short, g.size_is)) (omega (arith, g.few, blanked_nodes f t 0))
    (omega (arith, g.shallow, blanked_depth f t 0)) (blanked_texts f t 0 g.texts))

-- what was written, and what it is read as
module _ (tree ns o : List ℕ) (t : Tree) (z n : ℕ) (r : read_tree tree ≡ ReadOne.one t z n) (h : (blank_of tree ns o).answer.number ≡ 0) where
  abbrev f : ℕ → Bool
  f = dots_for ns

  abbrev s : List ℕ
  s = bytes_of (blanked f 0 t)

  pub written_is : blank_written (blank_of tree ns o) ≡ s
  unfolding blank_of
  written_is =
      let q : (blank_in (ReadOne.one t z n) ns o).answer.number ≡ 0 = rw r at h in
      ap (λ (x : ReadOne). blank_written (blank_in x ns o)) r ∙ ap blank_written (zero_is (all_cells (cell_flags t) ns) (ltb (length o) (length s)) o _ q)
      ∙ take-append_seam s (drop (length s) o)

  read_as : PaperRead tree ns (blank_of tree ns o)
  read_as =
      let g = tree_sound tree t z n r in
      record {
        tree_is = t;
        size = z;
        count = n;
        reads = r;
        accepted = ap read_tree written_is ∙ blanked_reads f tree t z n r;
        alike = blanked_alike f t;
        same_length = ap length written_is ∙ blanked_length f t tree g.is g.ends;
      }

  -- where each of the tree's bytes is below 256, as in every slice of bytes
  made_as : Every (λ b. b < 256) tree → PaperOf tree ns (blank_of tree ns o)
  unfolding read_as
  made_as b =
      let g = tree_sound tree t z n r in
      record {
        read = read_as;
        outside = λ i e. ap (λ (y : List ℕ). get_or y i 0) written_is ∙ blanked_outside f t i e
            ∙ sym (ap (λ (y : List ℕ). get_or y i 0) (tree_exact t tree b g.is g.ends));
      }

-- a tree that is refused is refused here too
zero_read : {A : Type 0} (tree ns o : List ℕ) → ((t : Tree) (z n : ℕ) → read_tree tree ≡ ReadOne.one t z n → A) → (blank_of tree ns o).answer.number ≡ 0 → A
unfolding blank_of
zero_read {A} tree ns o k h = go (read_tree tree) refl h
  where
    go : (x : ReadOne) → read_tree tree ≡ x → (blank_in x ns o).answer.number ≡ 0 → A
    go (ReadOne.refused j) r q = absurd (omega (arith, tree_refusal tree j r))
    go (ReadOne.one t z n) r q = k t z n r

pub paper_read : (tree ns o : List ℕ) → (blank_of tree ns o).answer.number ≡ 0 → PaperRead tree ns (blank_of tree ns o)
paper_read tree ns o h = zero_read tree ns o (λ t z n r. read_as tree ns o t z n r h) h

-- for lists of numbers; for slices `blank_texts` itself promises it
pub paper_made : (tree ns o : List ℕ) → Every (λ b. b < 256) tree → (blank_of tree ns o).answer.number ≡ 0 → PaperOf tree ns (blank_of tree ns o)
paper_made tree ns o b h = zero_read tree ns o (λ t z n r. made_as tree ns o t z n r h b) h

-- ---- for slices

each_byte : (s : List ℕ) → ((i : ℕ) → Fits w8 (get_or s i 0)) → Every (λ b. b < 256) s
each_byte [] h = tt
each_byte (b ∷ s) h = (omega (arith, h 0), each_byte s (λ i. h (suc i)))

-- what `blank_texts` ensures, from its answer and its output
pub all_told : (tree ns o : List ℕ) (r : Blanked) (out : List ℕ) → ((i : ℕ) → Fits w8 (get_or tree i 0)) → r ≡ (blank_of tree ns o).answer
    → out ≡ (blank_of tree ns o).memory
    → (r ≡ (blank_of tree ns o).answer) × ((out ≡ (blank_of tree ns o).memory) × (r.number ≡ 0 → PaperOf tree ns (record { answer = r; memory = out })))
all_told tree ns o r out h e d = (
  e,
  (
    d,
    λ z.
        let k : (blank_of tree ns o).answer.number ≡ 0 = sym (ap (λ (x : Blanked). x.number) e) ∙ z in
        let b : ◌≡◌ {A = Outcome Blanked (List ℕ)} (blank_of tree ns o) (record { answer = r; memory = out }) =
        sym (ap₂ (λ (x : Blanked) (y : List ℕ). record { answer = x; memory = y }) e d) in
        subst (λ (x : Outcome Blanked (List ℕ)). PaperOf tree ns x) b (paper_made tree ns o (each_byte tree h) k),
  ),
)
