-- What becomes of rows where one is closed, and where the first are others.
use Rattle.std.proofs.Common.{◌≡◌, ℕ, suc, ◌+◌, ◌-◌, ◌<◌, ◌≤◌, List, ◌++◌, length, take, drop, sym, ap, ◌∙◌, arith, length-append, length-drop, take-take}
use lib.Seq.{paste}
use Rattle.std.specs.List.{remove}
use Rattle.std.proofs.lemmas.List.Edits.{take-paste, drop-paste}
use Rattle.std.proofs.lemmas.List.{drop-take, drop-drop, take_at, drop_at}

module _ {A : Type 0} (xs : List A) (n : ℕ) where
  -- a row of the roll is closed
  module _ (k : ℕ) (l : k < n) (m : n ≤ length xs) where
    pub gap_roll : take (n - 1) (paste xs k (drop (k + 1) xs) (n - (k + 1))) ≡ remove (take n xs) k
    gap_roll =
        let e1 : n - 1 ≡ k + (n - (k + 1)) = omega arith in
        let e2 : (k + 1) + (n - (k + 1)) ≡ n = omega arith in
        let e3 : k + 1 ≡ suc k = omega arith in
        let room : n - (k + 1) ≤ length (drop (k + 1) xs) = simp length-drop (omega arith) in
        ap (λ j. take j (paste xs k (drop (k + 1) xs) (n - (k + 1)))) e1
        ∙ take-paste xs k (drop (k + 1) xs) (n - (k + 1)) (omega arith) room
        ∙ ap (λ r. take k xs ++ r) (sym (drop-take (k + 1) (n - (k + 1)) xs) ∙ ap (λ j. drop (k + 1) (take j xs)) e2 ∙ ap (λ j. drop j (take n xs)) e3)
        ∙ ap (λ r. r ++ drop (suc k) (take n xs)) (sym (take-take k n xs (omega arith)))

    pub gap_rest : (t : ℕ) → n ≤ t → drop t (paste xs k (drop (k + 1) xs) (n - (k + 1))) ≡ drop t xs
    gap_rest t h =
        let e : (k + (n - (k + 1))) + (t - (k + (n - (k + 1)))) ≡ t = omega arith in
        let ys = paste xs k (drop (k + 1) xs) (n - (k + 1)) in
        let w = k + (n - (k + 1)) in
        sym (drop-drop (t - w) w ys ∙ ap (λ j. drop j ys) e)
        ∙ ap (drop (t - w)) (drop-paste xs k (drop (k + 1) xs) (n - (k + 1)) (omega arith) (simp length-drop (omega arith)))
        ∙ (drop-drop (t - w) w xs ∙ ap (λ j. drop j xs) e)

  -- the first n are others
  module _ (front : List A) (size : length front ≡ n) (m : n ≤ length xs) where
    pub front_roll : take n (front ++ drop n xs) ≡ front
    front_roll = take_at front (drop n xs) n size

    pub front_length : length (front ++ drop n xs) ≡ length xs
    front_length = simp length-append (let d = length-drop n xs in omega arith)

    pub front_rest : (t : ℕ) → n ≤ t → drop t (front ++ drop n xs) ≡ drop t xs
    front_rest t h =
        let e : n + (t - n) ≡ t = omega arith in
        let ys = front ++ drop n xs in
        sym (drop-drop (t - n) n ys ∙ ap (λ j. drop j ys) e)
        ∙ ap (drop (t - n)) (drop_at front (drop n xs) n size)
        ∙ (drop-drop (t - n) n xs ∙ ap (λ j. drop j xs) e)
