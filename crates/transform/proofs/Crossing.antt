-- A block whose right half is being changed by its left half, place by place. Assumes nothing.
use mathlib.Core.Path.{◌≡◌, sym, ap, ap₂, ◌∙◌}
use mathlib.Core.List.{List}
use Prim.Native.Nat.{ℕ, ◌+◌, ◌<◌, ◌≤◌}
use native.Mathlib.Nat.{add_assoc}
use native.Mathlib.Decide.{dec_lt}
use native.Mathlib.Omega.{arith}
use lib.ListN.{length, get_or, take, drop, set, length-append, length-drop, get_or-append}
use lib.Seq.{get_or-take, get_or-drop, get_or-append-add, ext_get_or, length-take-le}
use Rattle.algebra.specs.Lists.{zip, length_zip, get_or_zip}
use Rattle.algebra.specs.Filling.{Filled, fill, length_fill, fill_old, fill_new, filled_length, filled_old, filled_new, filled_turn, filled_end}
use Rattle.algebra.specs.Words.{PrimeField}
use Rattle.algebra.specs.WordLists.{Low, elements, to_words, length_elements, length_words_lem, get_or_elements, get_or_words}
use Rattle.transform.specs.Passes.{crossed}

-- where the first i elements are not new, nothing is written yet
same_front : (i : ℕ) (new old : List ℕ) → length new ≡ length old → ((k : ℕ) → k < i → get_or new k 0 ≡ get_or old k 0) → Filled i new old old
same_front i new old e same = record { is = sym (ext_get_or 0 (fill i new old) old (length_fill i new old) at) }
  where
    at : (k : ℕ) → k < length (fill i new old) → get_or (fill i new old) k 0 ≡ get_or old k 0
    at k h = go (dec_lt k i)
      where
        go : Dec (k < i) → get_or (fill i new old) k 0 ≡ get_or old k 0
        go (yes l) = fill_new i k new old 0 l e ∙ same k l
        go (no l) = fill_old i k new old 0 (omega arith)

module _ (𝓕 : PrimeField) where
  open 𝓕 use {modulus as P, field as F, words as W}
  open F use {ring as K}
  open K use {R as Element}
  open W use {el, val as word}

  -- the words of the changed block
  abbrev pub changed : (Element → Element → Element) → ℕ → List ℕ → List ℕ
  changed f h ws = to_words 𝓕 (crossed f h (elements 𝓕 ws))

  -- before turn j the left half and j places of the right half are as in the changed block
  pub record Crossing (f : Element → Element → Element) (h : ℕ) (ws : List ℕ) (j : ℕ) (out : List ℕ) : Type 0 where
    pub size : length ws ≡ h + h
    pub low : Low P ws
    pub most : j ≤ h
    pub filled : Filled (h + j) (changed f h ws) ws out

  module _ (f : Element → Element → Element) (h : ℕ) (ws : List ℕ) (e : length ws ≡ h + h) where
    left : length (take h (elements 𝓕 ws)) ≡ h
    left = length-take-le h (elements 𝓕 ws) (omega (arith, length_elements 𝓕 ws))

    right : length (drop h (elements 𝓕 ws)) ≡ h
    right = length-drop h (elements 𝓕 ws) ∙ omega (arith, length_elements 𝓕 ws)

    length_changed : length (changed f h ws) ≡ length ws
    unfolding crossed
    length_changed =
        length_words_lem 𝓕 (crossed f h (elements 𝓕 ws))
        ∙ length-append (take h (elements 𝓕 ws)) (zip f (take h (elements 𝓕 ws)) (drop h (elements 𝓕 ws)))
        ∙ omega (arith, left, length_zip f (take h (elements 𝓕 ws)) (drop h (elements 𝓕 ws)) h left right)

    changed_left : Low P ws → (k : ℕ) → k < h → get_or (changed f h ws) k 0 ≡ get_or ws k 0
    unfolding crossed
    changed_left low k p =
        get_or_words 𝓕 (crossed f h (elements 𝓕 ws)) k
        ∙ ap word
        (get_or-append (take h (elements 𝓕 ws)) _ K.𝟘 k (omega (arith, left))
        ∙ get_or-take h (elements 𝓕 ws) k K.𝟘 p ∙ get_or_elements 𝓕 ws k)
        ∙ 𝓕.words.val_el (get_or ws k 0) (low.low k (omega arith))

    changed_right : (j : ℕ) → j < h → get_or (changed f h ws) (h + j) 0 ≡ word (f (el (get_or ws j 0)) (el (get_or ws (h + j) 0)))
    unfolding crossed
    changed_right j p =
        get_or_words 𝓕 (crossed f h (elements 𝓕 ws)) (h + j)
        ∙ ap word
        (ap (λ n. get_or (crossed f h (elements 𝓕 ws)) (n + j) K.𝟘) (sym left)
        ∙ get_or-append-add (take h (elements 𝓕 ws)) _ j K.𝟘
        ∙ get_or_zip f (take h (elements 𝓕 ws)) (drop h (elements 𝓕 ws)) K.𝟘 K.𝟘 K.𝟘 j (omega (arith, left)) (omega (arith, right))
        ∙ ap₂ f (get_or-take h (elements 𝓕 ws) j K.𝟘 p ∙ get_or_elements 𝓕 ws j) (get_or-drop h (elements 𝓕 ws) j K.𝟘 ∙ get_or_elements 𝓕 ws (h + j)))

    pub crossing_none : Low P ws → Crossing f h ws 0 ws
    crossing_none low =
        record { size = e; low = low; most = omega arith; filled = same_front (h + 0) (changed f h ws) ws length_changed (λ k p. changed_left low k (omega arith)) }

  module _ {f : Element → Element → Element} {h : ℕ} {ws : List ℕ} {j : ℕ} {out : List ℕ} (x : Crossing f h ws j out) where
    pub crossing_length : length out ≡ length ws
    crossing_length = filled_length x.filled

    -- what a turn reads
    now_left : j < h → get_or out j 0 ≡ get_or ws j 0
    now_left p = filled_new x.filled j 0 (omega arith) (length_changed f h ws x.size) ∙ changed_left f h ws x.size x.low j p

    now_right : get_or out (h + j) 0 ≡ get_or ws (h + j) 0
    now_right = filled_old x.filled (h + j) 0 (omega arith)

    pub crossing_low : j < h → (get_or out j 0 < P) × (get_or out (h + j) 0 < P)
    crossing_low p = (rw (now_left p) (x.low.low j (omega arith)), rw now_right (x.low.low (h + j) (omega arith)))

    pub crossing_turn : {v : ℕ} → j < h → v ≡ word (f (el (get_or out j 0)) (el (get_or out (h + j) 0))) → Crossing f h ws (j + 1) (set out (h + j) v)
    crossing_turn {v} p is = record {
      size = x.size;
      low = x.low;
      most = omega arith;
      filled =
          rw (sym (add_assoc h j 1))
          (filled_turn 0 (omega arith) (length_changed f h ws x.size) x.filled
          (is ∙ ap₂ (λ a b. word (f (el a) (el b))) (now_left p) now_right ∙ sym (changed_right f h ws x.size j p)));
    }

    pub crossing_end : h ≤ j → out ≡ changed f h ws
    crossing_end p = filled_end (omega arith) (length_changed f h ws x.size) x.filled
