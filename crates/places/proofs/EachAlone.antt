-- Request 6, "each exactly as if it had been put alone", about the numbers that `find_places` wrote.
use mathlib.Core.Path.{◌≡◌, refl}
use Prim.Native.Nat.{ℕ, zero, suc, ◌<◌}
use native.Mathlib.Omega.{arith}
use mathlib.Core.List.{List, [], ◌∷◌, ◌++◌, map}
use lib.ListN.{length, get_or, drop}
use Rattle.sizes.specs.Input.{input_of}
use Rattle.common.proofs.Every.{every_at}
use Rattle.places.specs.Words.{line_of, column_of}
use Rattle.places.specs.Places.{leaf_place_of}
use Rattle.places.specs.Together.{finds_of}
use Rattle.places.specs.Promises.{EachAsAlone, unpacked, Alone, alone_word}
use Rattle.places.proofs.Calls.{unpack_same}
use Rattle.places.proofs.Theorems.{place_small}
use Rattle.places.proofs.Together.{together}

mapped_at : (f : ℕ → ℕ) (ps fs : List ℕ) (i : ℕ) → i < length ps → get_or (map f ps ++ fs) i 0 ≡ f (get_or ps i 0)
mapped_at f [] fs i h = absurd (omega arith)
mapped_at f (p ∷ ps) fs zero h = refl
mapped_at f (p ∷ ps) fs (suc i) h = mapped_at f ps fs i (omega arith)

module _ (bs ts : List ℕ) where
  -- an answer's line and column fit their bits
  apart : (p : ℕ) → Alone (input_of bs ts) p → unpacked (alone_word (input_of bs ts) p) ≡ leaf_place_of (input_of bs ts) (line_of p) (column_of p)
  apart p h =
      let r = leaf_place_of (input_of bs ts) (line_of p) (column_of p) in
      let z = place_small bs ts (line_of p) (column_of p) r refl h in
      unpack_same r h (omega (arith, z.1)) (omega (arith, z.2))

  pub each_as_alone : (ps fs : List ℕ) → (finds_of (input_of bs ts) ps fs).answer.number ≡ 0 → EachAsAlone bs ts ps (finds_of (input_of bs ts) ps fs)
  each_as_alone ps fs h =
      let k = together bs ts ps fs (finds_of (input_of bs ts) ps fs) refl h in
      record {
        count = k.count;
        alone = λ i l.
            let m : i < length ps = omega (arith, k.count) in
            rw (k.list, mapped_at (alone_word (input_of bs ts)) ps (drop (length ps) fs) i m)
            (apart (get_or ps i 0) (every_at (Alone (input_of bs ts)) ps 0 i k.each m));
      }
