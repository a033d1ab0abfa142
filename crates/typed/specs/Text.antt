-- The text of a Cell as it is typed.
use Rattle.std.specs.Prelude.{ℕ, suc, Bool, true, false, List, [], ◌∷◌, eqb, ltb}
use Rattle.common.specs.Choice.{pick}

-- what one byte does: it puts a byte into the text, starts an escape, or is not allowed there, with the fault
pub data Byte : Type 0 where
  Put : ℕ → Byte
  Escape : Byte
  Wrong : ℕ → Byte

-- What one byte does. After a backslash (92): n (110) is a line feed, a backslash is itself, all else is fault 32.
-- Elsewhere a backslash starts an escape, hex 20 to 7E are themselves, all else is fault 31.
unfoldable pub byte_of : Bool → ℕ → Byte
byte_of true b = pick (eqb b 110) (Put 10) (pick (eqb b 92) (Put 92) (Wrong 32))
byte_of false b = pick (eqb b 92) Escape (pick (ltb b 32) (Wrong 31) (pick (ltb 126 b) (Wrong 31) (Put b)))

-- a text, or the first fault and how many bytes are before it
pub data Text : Type 0 where
  wrong : ℕ → ℕ → Text
  text : List ℕ → Text

-- after one byte more that puts c, and after one that puts nothing
abbrev pub putting : ℕ → Text → Text
putting c (wrong k i) = wrong k (suc i)
putting c (text t) = text (c ∷ t)

abbrev pub later_text : Text → Text
later_text (wrong k i) = wrong k (suc i)
later_text (text t) = text t

-- a backslash at the end is fault 32
abbrev pub ended_text : Bool → Text
ended_text true = wrong 32 0
ended_text false = text []

-- `e`: an escape was started
unfoldable pub text_from : Bool → List ℕ → Text
text_from e [] = ended_text e
text_from e (b ∷ s) = elim (byte_of e b) [
  | Put c ↦ putting c (text_from false s)
  | Escape ↦ later_text (text_from true s)
  | Wrong k ↦ wrong k 0
]

-- the text that was typed as s
abbrev pub typed_text : List ℕ → Text
typed_text s = text_from false s

-- ---- what the functions answer
