-- `returned_read`: what a return gives back is a tree that the tree reader accepts.
use mathlib.Core.Path.{◌≡◌, refl}
use Prim.Native.Nat.{ℕ}
use native.Mathlib.Omega.{arith}
use mathlib.Core.Bool.{Bool, true, false}
use mathlib.Core.List.{List, [], ◌∷◌, ◌++◌}
use mathlib.Core.Option.{Option, some, none}
use lib.ListN.{length, take, drop, replicate}
use lib.Seq.{take-append_seam}
use lib.Dec.{ltb, eqb}
use borrow.Author.Tests.{eqb-true}
use Rattle.common.specs.Choice.{pick}
use Rattle.common.specs.Outcome.{Outcome}
use Rattle.drafts.specs.declared.Returned.{Returned}
use Rattle.drafts.specs.Store.{is_name, save_of, forget_of, no_return, return_found, return_of}
use Rattle.drafts.specs.Promises.{TreeRead, DraftCall, save, forget, return, answer_to, store_after, noted, last_saved}
use Rattle.drafts.proofs.Calls.{saved_read}
use Rattle.drafts.proofs.Series.{return_gives}

-- ---- the last accepted save

module _ (k : ℕ) (tree : List ℕ) where
  abbrev Reads : Option (List ℕ) → Type 0
  Reads m = m ≡ some tree → TreeRead tree

  save_noted : (o : List ℕ) (n : ℕ) (bytes : List ℕ) (m : Option (List ℕ)) → Reads m → (c d : Bool) → eqb (save_of o n bytes).answer 0 ≡ d
      → Reads (pick c (pick d (some bytes) m) m)
  save_noted o n bytes m r true true e h = let z : bytes ≡ tree = cc in rw z at (saved_read o n bytes (eqb-true (save_of o n bytes).answer 0 e))
  save_noted o n bytes m r true false e h = r h
  save_noted o n bytes m r false d e h = r h

  forget_noted : (m : Option (List ℕ)) → Reads m → (c d : Bool) → Reads (pick c (pick d none m) m)
  forget_noted m r true true h = let z : ◌≡◌ {A = ℕ} 0 1 = cc in absurd (omega arith)
  forget_noted m r true false h = r h
  forget_noted m r false d h = r h

  call_noted : (o : List ℕ) (c : DraftCall) (m : Option (List ℕ)) → Reads m → Reads (noted k (answer_to o c).answer c m)
  unfolding noted answer_to
  call_noted o (save n bytes) m r = save_noted o n bytes m r (eqb n k) (eqb (save_of o n bytes).answer 0) refl
  call_noted o (forget n) m r = forget_noted m r (eqb n k) (eqb (forget_of o n).answer 0)
  call_noted o (return n out) m r = r

  pub last_read : (cs : List DraftCall) (o : List ℕ) (m : Option (List ℕ)) → Reads m → Reads (last_saved k o cs m)
  unfolding last_saved
  last_read [] o m r = r
  last_read (c ∷ cs) o m r = last_read cs (answer_to o c).memory (noted k (answer_to o c).answer c m) (call_noted o c m r)

-- ---- what is returned

abbrev Given : Outcome Returned (List ℕ) → Type 0
Given r = r.answer.number ≡ 0 → TreeRead (take r.answer.count r.memory)

given_case : (tree out : List ℕ) (c :
    Bool) → TreeRead tree → Given (pick c (no_return 8 out)
    (record { answer = record { number = 0; count = length tree }; memory = tree ++ drop (length tree) out }))
given_case tree out true r h = absurd (omega arith)
given_case tree out false r h = rw (take-append_seam tree (drop (length tree) out)) r

found_given : (m : Option (List ℕ)) (out : List ℕ) → ((tree : List ℕ) → m ≡ some tree → TreeRead tree) → Given (return_found m out)
found_given none out r h = absurd (omega arith)
found_given (some tree) out r h = given_case tree out (ltb (length out) (length tree)) (r tree refl) h

-- from a store of zero bytes, after any series of calls
pub returned_read : (n : ℕ) (cs : List DraftCall) (k : ℕ) → is_name k ≡ true → (out : List ℕ)
    → let r = return_of (store_after (replicate n 0) cs) k out in r.answer.number ≡ 0 → TreeRead (take r.answer.count r.memory)
returned_read n cs k name out =
    rw (return_gives n cs k name out)
    (found_given (last_saved k (replicate n 0) cs none) out
    (λ tree. last_read k tree cs (replicate n 0) none (λ h. let z : ◌≡◌ {A = ℕ} 0 1 = cc in absurd (omega arith))))
