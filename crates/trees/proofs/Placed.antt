-- Bytes put into a space one run after another.
use Rattle.std.proofs.Common.{◌≡◌, ℕ, ◌+◌, ◌<◌, ◌≤◌, List, [], ◌∷◌, ◌++◌, length, take, drop, set, sym, refl, ap, ◌∙◌, ap₂, append_assoc, add-one, arith, length-append}
use Rattle.std.proofs.lemmas.List.{set_split, take_at, drop_at, length-take-le, drop-drop}
use Rattle.trees.specs.Block.{placed}

pub placed_set : (xs : List ℕ) (n b : ℕ) → n < length xs → set xs n b ≡ placed xs n (b ∷ [])
unfolding placed
placed_set xs n b h = set_split xs n b h ∙ ap (λ k. take n xs ++ (b ∷ drop k xs)) (sym (add-one n))

-- one run of bytes after another
pub placed_more : (xs : List ℕ) (n m : ℕ) (bs cs : List ℕ) → n ≤ length xs → m ≡ n + length bs → placed (placed xs n bs) m cs ≡ placed xs n (bs ++ cs)
unfolding placed
placed_more xs n m bs cs h e =
    let p = take n xs ++ bs in
    let d = drop (n + length bs) xs in
    let lp : length p ≡ m = omega (arith, length-append (take n xs) bs, length-take-le n xs h) in
    let a : take n xs ++ (bs ++ d) ≡ p ++ d = sym (append_assoc (take n xs) bs d) in
    let t : take m (p ++ d) ≡ p = take_at p d m lp in
    let u : drop (m + length cs) (p ++ d) ≡ drop (length cs) d = sym (drop-drop (length cs) m (p ++ d)) ∙ ap (drop (length cs)) (drop_at p d m lp) in
    let v : drop (length cs) d ≡ drop (n + length (bs ++ cs)) xs = drop-drop (length cs) (n + length bs) xs ∙ ap (λ k. drop k xs) (omega (arith, length-append bs cs)) in
    ap (λ z. take m z ++ (cs ++ drop (m + length cs) z)) a
    ∙ ap₂ (λ x y. x ++ (cs ++ y)) t (u ∙ v)
    ∙ append_assoc (take n xs) bs (cs ++ drop (n + length (bs ++ cs)) xs)
    ∙ ap (λ z. take n xs ++ z) (sym (append_assoc bs cs (drop (n + length (bs ++ cs)) xs)))

-- two runs of bytes in brackets
pub bracketed : (xs ys zs : List ℕ) (n mid end : ℕ) (us bs : List ℕ) → n < length xs → ys ≡ placed (set xs n 40) (n + 1) us → mid ≡ n + 1 + length us
    → zs ≡ placed ys mid bs → end ≡ mid + length bs → end < length zs → set zs end 41 ≡ placed xs n (40 ∷ (us ++ (bs ++ (41 ∷ []))))
bracketed xs ys zs n mid end us bs h p q r s l =
    let e₁ : ys ≡ placed xs n (40 ∷ us) = p ∙ ap (λ z. placed z (n + 1) us) (placed_set xs n 40 h) ∙ placed_more xs n (n + 1) (40 ∷ []) us (omega arith) refl in
    let e₂ : zs ≡ placed xs n ((40 ∷ us) ++ bs) = r ∙ ap (λ z. placed z mid bs) e₁ ∙ placed_more xs n mid (40 ∷ us) bs (omega arith) (omega arith) in
    placed_set zs end 41 l ∙ ap (λ z. placed z end (41 ∷ [])) e₂
    ∙ placed_more xs n end ((40 ∷ us) ++ bs) (41 ∷ []) (omega arith) (omega (arith, length-append us bs))
    ∙ ap (λ z. placed xs n (40 ∷ z)) (append_assoc us bs (41 ∷ []))
