-- A loop that has found the first i words different, and has left a mark for the remainder of each. Assumes nothing.
use mathlib.Core.Path.{◌≡◌, refl, sym, ap, ◌∙◌}
use mathlib.Core.Logic.{◌≢◌, ◌⊎◌, inl, inr}
use mathlib.Core.Bool.{Bool, true, false, not, ◌&&◌, false≢true}
use mathlib.Core.List.{List}
use Prim.Native.Nat.{ℕ, ◌+◌, ◌%◌, ◌<◌, ◌≤◌}
use native.Mathlib.Decide.{ℕ_discrete}
use native.Mathlib.Omega.{arith}
use lib.ListN.{length, get_or, take, set, length-set}
use lib.Seq.{length-take-le, get_or-take, get_or-set_same, get_or-set_other}
use Rattle.algebra.specs.Order.{lt_or_ge}
use Rattle.queries.specs.Distinct.{absent, distinct}
use Rattle.queries.specs.DistinctLaws.{absent_at, present, distinct_exactly, repeated_exactly}

-- where a word leaves its mark
abbrev mark : ℕ → ℕ
mark w = w % 1024

pub record Marked (ws : List ℕ) (marks : List Bool) (i : ℕ) : Type 0 where
  pub within : i ≤ length ws
  pub size : length marks ≡ 1024
  pub apart : (j k : ℕ) → j < k → k < i → get_or ws j 0 ≢ get_or ws k 0
  pub left : (j : ℕ) → j < i → get_or marks (mark (get_or ws j 0)) false ≡ true

-- a word that meets a mark and is not absent before
abbrev again : List ℕ → List Bool → ℕ → Bool
again ws marks i = get_or marks (mark (get_or ws i 0)) false && not (absent (get_or ws i 0) (take i ws))

unless : (b : Bool) → not b ≡ false → b ≡ true
unless true e = refl
unless false e = absurd (false≢true (sym e))

met_both : (a b : Bool) → (a && not b) ≡ true → b ≡ false
met_both true false e = refl
met_both true true e = absurd (false≢true e)
met_both false b e = absurd (false≢true e)

-- a mark stays, and one is added
set_left : (marks : List Bool) (m k : ℕ) → m < length marks → get_or marks k false ≡ true → get_or (set marks m true) k false ≡ true
set_left marks m k h e = by (ℕ_discrete k m)
  where
    by : Dec (k ≡ m) → get_or (set marks m true) k false ≡ true
    by (yes q) = rw q (get_or-set_same marks m true false h)
    by (no n) = get_or-set_other marks m k true false n ∙ e

module _ {ws : List ℕ} where
  -- before the loop
  pub marked_none : {marks : List Bool} → length marks ≡ 1024 → Marked ws marks 0
  marked_none e = record { within = omega arith; size = e; apart = λ j k l h. absurd (omega arith); left = λ j h. absurd (omega arith) }

  module _ {marks : List Bool} {i : ℕ} (𝓜 : Marked ws marks i) (l : i < length ws) where
    shorter : length (take i ws) ≡ i
    shorter = length-take-le i ws (omega arith)

    -- a word that meets no mark, or that is absent before, differs from all before it
    new_word : (b : Bool) → get_or marks (mark (get_or ws i 0)) false ≡ b → (b && not (absent (get_or ws i 0) (take i ws))) ≡ false → (j : ℕ) → j < i → get_or ws j 0 ≢ get_or ws i 0
    new_word false e f j h q = false≢true (sym e ∙ ap (λ w. get_or marks (mark w) false) (sym q) ∙ 𝓜.left j h)
    new_word true e f j h q = absent_at (get_or ws i 0) (take i ws) (unless _ f) j (omega (arith, shorter)) (get_or-take i ws j 0 h ∙ q)

    -- after a turn
    pub marked_turn : again ws marks i ≡ false → Marked ws (set marks (mark (get_or ws i 0)) true) (i + 1)
    marked_turn e = record {
      within = omega arith;
      size = length-set marks _ true ∙ 𝓜.size;
      apart = λ j k h m. by k m (ℕ_discrete k i) j h;
      left = λ j h. old j h (ℕ_discrete j i);
    }
      where
        room : mark (get_or ws i 0) < length marks
        room = omega (arith, 𝓜.size)

        by : (k : ℕ) → k < i + 1 → Dec (k ≡ i) → (j : ℕ) → j < k → get_or ws j 0 ≢ get_or ws k 0
        by k m (yes q) j h = rw q (new_word _ refl e j (omega arith))
        by k m (no n) j h = 𝓜.apart j k h (omega arith)

        old : (j : ℕ) → j < i + 1 → Dec (j ≡ i) → get_or (set marks (mark (get_or ws i 0)) true) (mark (get_or ws j 0)) false ≡ true
        old j h (yes q) = rw q (get_or-set_same marks (mark (get_or ws i 0)) true false room)
        old j h (no n) = set_left marks (mark (get_or ws i 0)) (mark (get_or ws j 0)) room (𝓜.left j (omega arith))

    -- where it stops
    pub marked_stop : again ws marks i ≡ true → false ≡ distinct ws
    marked_stop e =
        let p = present (get_or ws i 0) (take i ws) (met_both (get_or marks (mark (get_or ws i 0)) false) (absent (get_or ws i 0) (take i ws)) e) in
        sym ((repeated_exactly ws).1 (record {
          one = p.0;
          other = i;
          within = (omega (arith, p.1, shorter), l);
          different = λ q. omega (arith, p.1, shorter);
          same = sym (get_or-take i ws p.0 0 (omega (arith, p.1, shorter))) ∙ p.2;
        }))

  -- at its end
  pub marked_end : {marks : List Bool} {i : ℕ} → Marked ws marks i → length ws ≤ i → true ≡ distinct ws
  marked_end {marks} {i} 𝓜 l = sym ((distinct_exactly ws).1 (record { apart = λ j k a b n. by j k a b n (lt_or_ge j k) }))
    where
      by : (j k : ℕ) → j < length ws → k < length ws → j ≢ k → (j < k) ⊎ (k ≤ j) → get_or ws j 0 ≢ get_or ws k 0
      by j k a b n (inl h) = 𝓜.apart j k h (omega arith)
      by j k a b n (inr h) = λ q. 𝓜.apart k j (omega (arith, n)) (omega arith) (sym q)
