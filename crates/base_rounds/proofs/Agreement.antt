-- A list of which parts are written, as it comes to agree with another list part by part. Assumes nothing.
use mathlib.Core.Path.{◌≡◌, sym, ap, ◌∙◌}
use mathlib.Core.Logic.{⊎_elim}
use mathlib.Core.List.{List, ◌++◌}
use Prim.Native.Nat.{ℕ, ◌+◌, ◌-◌, ◌<◌, ◌≤◌}
use native.Mathlib.Omega.{arith}
use lib.ListN.{length, take, drop, get_or, length-append, length-take, length-drop, get_or-append}
use lib.Seq.{get_or-take, get_or-drop, get_or-append-add, ext_get_or}
use Rattle.algebra.specs.Order.{lt_or_ge}
use Rattle.algebra.specs.Lists.{put}

-- the two lists agree from place a to place b
pub record Agrees (a b : ℕ) (new out : List ℕ) : Type 0 where
  pub at : (k : ℕ) → a ≤ k → k < b → get_or out k 0 ≡ get_or new k 0

pub agrees_none : (a b : ℕ) (new out : List ℕ) → b ≤ a → Agrees a b new out
agrees_none a b new out h = record { at = λ k l n. absurd (omega arith) }

module _ (a : ℕ) (xs o : List ℕ) (fits : a + length xs ≤ length o) where
  first : length (take a o) ≡ a
  first = length-take a o ∙ omega arith

  pub length_put : length (put a xs o) ≡ length o
  length_put =
      length-append (take a o) (xs ++ drop (a + length xs) o)
      ∙ omega (arith, first, length-append xs (drop (a + length xs) o), length-drop (a + length xs) o)

  before : (k : ℕ) → k < a → get_or (put a xs o) k 0 ≡ get_or o k 0
  before k h = get_or-append (take a o) (xs ++ drop (a + length xs) o) 0 k (omega (arith, first)) ∙ get_or-take a o k 0 h

  behind : (k : ℕ) → get_or (put a xs o) (a + k) 0 ≡ get_or (xs ++ drop (a + length xs) o) k 0
  behind k = ap (λ n. get_or (put a xs o) (n + k) 0) (sym first) ∙ get_or-append-add (take a o) (xs ++ drop (a + length xs) o) k 0

  within : (j k : ℕ) → a + j ≡ k → j < length xs → get_or (put a xs o) k 0 ≡ get_or xs j 0
  within j k e h = ap (λ n. get_or (put a xs o) n 0) (sym e) ∙ behind j ∙ get_or-append xs (drop (a + length xs) o) 0 j h

  after : (j k : ℕ) → a + length xs + j ≡ k → get_or (put a xs o) k 0 ≡ get_or o k 0
  after j k e =
      let n : a + (length xs + j) ≡ k = omega arith in
      ap (λ n. get_or (put a xs o) n 0) (sym n)
      ∙ behind (length xs + j) ∙ get_or-append-add xs (drop (a + length xs) o) j 0 ∙ get_or-drop (a + length xs) o j 0
      ∙ ap (λ n. get_or o n 0) e

  -- what lies behind is as it was
  pub drop_put : (b : ℕ) → a + length xs ≤ b → drop b (put a xs o) ≡ drop b o
  drop_put b h =
      ext_get_or 0 (drop b (put a xs o)) (drop b o) (length-drop b (put a xs o) ∙ ap (λ n. n - b) length_put ∙ sym (length-drop b o))
      (λ k l. get_or-drop b (put a xs o) k 0 ∙ after (b + k - (a + length xs)) (b + k) (omega arith) ∙ sym (get_or-drop b o k 0))

  -- what lies apart agrees as before
  pub agrees_below : {l h : ℕ} {new : List ℕ} → h ≤ a → Agrees l h new o → Agrees l h new (put a xs o)
  agrees_below s p = record { at = λ k x y. before k (omega arith) ∙ p.at k x y }

  pub agrees_above : {l h : ℕ} {new : List ℕ} → a + length xs ≤ l → Agrees l h new o → Agrees l h new (put a xs o)
  agrees_above s p = record { at = λ k x y. after (k - (a + length xs)) k (omega arith) ∙ p.at k x y }

  -- a part that begins where the lists agree so far
  pub agrees_more : {l : ℕ} {new : List ℕ} (e : ℕ) → a + length xs ≡ e → Agrees l a new o → ((j : ℕ) → j < length xs → get_or xs j 0 ≡ get_or new (a + j) 0)
      → Agrees l e new (put a xs o)
  agrees_more {l} {new} e q p same =
      record { at = λ k x y. ⊎_elim (λ h. before k h ∙ p.at k x h) (λ h. let n : a + (k - a) ≡ k = omega arith in within (k - a) k n (omega arith) ∙ same (k - a) (omega arith) ∙ ap (λ i. get_or new i 0) n) (lt_or_ge k a) }
