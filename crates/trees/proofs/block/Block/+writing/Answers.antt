use Rattle.std.proofs.Common.{◌≡◌, ℕ, ◌+◌, ◌/◌, ◌%◌, ◌^◌, ◌<◌, [], ◌∷◌, ◌++◌, length, sym, ap, ◌∙◌, ap₂, arith, length-append, length-set, rules}
use Rattle.std.proofs.lemmas.Bool.{eqb-true}
use Rattle.trees.specs.Block.{Mixed, text_of, placed}
use Rattle.trees.proofs.Blocks.{text_empty, text_full, text_pair}
use Rattle.trees.proofs.Placed.{placed_set, bracketed}
use Rattle.trees.proofs.block.Block.+writing.Goals as goal

pub write-bounds-space-at : goal.write-bounds-space-at
write-bounds-space-at t c = omega (arith, ap length (text_empty c.args.self.size c.args.self.cells c.if-self-eq0.true))

pub write-returns-then-self-eq0 : goal.write-returns-then-self-eq0
write-returns-then-self-eq0 t c =
    let w = text_empty c.args.self.size c.args.self.cells c.if-self-eq0.true in
    record {
      end = ap (λ x. c.args.at + length x) (sym w);
      bytes = placed_set c.args.space.now c.args.at 48 (omega (arith, ap length w)) ∙ ap (placed c.args.space.now c.args.at) (sym w);
    }

pub write-bounds-space-at-then-is_full : goal.write-bounds-space-at-then-is_full
write-bounds-space-at-then-is_full t c =
    let all = eqb-true c.args.self.cells _ (sym c.is_full.ensures ∙ c.if-is_full.true) in
    omega (arith, ap length (text_full c.args.self.size c.args.self.cells (record { sized = c.args.self.sized; fits = c.args.self.fits }) all))

pub write-returns-then-is_full : goal.write-returns-then-is_full
write-returns-then-is_full t c =
    let all = eqb-true c.args.self.cells _ (sym c.is_full.ensures ∙ c.if-is_full.true) in
    let w = text_full c.args.self.size c.args.self.cells (record { sized = c.args.self.sized; fits = c.args.self.fits }) all in
    record {
      end = ap (λ x. c.args.at + length x) (sym w);
      bytes = placed_set c.args.space.now c.args.at 49 (omega (arith, ap length w)) ∙ ap (placed c.args.space.now c.args.at) (sym w);
    }

-- the text of a mixed block and its length, by those of its halves
module _ (size cells size₁ low size₂ high : ℕ) (m : Mixed size cells) where
  module _ (l : low ≡ cells % 2 ^ (size / 2)) (s₁ : size₁ ≡ size / 2) (h : high ≡ cells / 2 ^ (size / 2)) (s₂ : size₂ ≡ size / 2) where
    mixed_text : text_of size cells ≡ 40 ∷ (text_of size₁ low ++ (text_of size₂ high ++ (41 ∷ [])))
    mixed_text = text_pair size cells m ∙ sym (ap₂ (λ x y. 40 ∷ (x ++ (y ++ (41 ∷ [])))) (ap₂ text_of s₁ l) (ap₂ text_of s₂ h))

    mixed_length : length (text_of size cells) ≡ length (text_of size₁ low) + length (text_of size₂ high) + 2
    mixed_length = ap length mixed_text ∙ omega (arith, length-append (text_of size₁ low) (text_of size₂ high ++ (41 ∷ [])), length-append (text_of size₂ high) (41 ∷ []))

pub write_pair-bounds-space-at : goal.write_pair-bounds-space-at
write_pair-bounds-space-at t c =
    let h = c.halves.ensures in
    omega (arith, mixed_length c.args.self.size c.args.self.cells _ _ _ _ c.requires.mixed h.low h.low_size h.high h.high_size)

pub write_pair-write-mid-requires : goal.write_pair-write-mid-requires
write_pair-write-mid-requires t c =
    let h = c.halves.ensures in
    let len = mixed_length c.args.self.size c.args.self.cells _ _ _ _ c.requires.mixed h.low h.low_size h.high h.high_size in
    (omega (arith, h.smaller, h.low_size), omega (arith, len, length-set c.args.space.now c.args.at 40))

pub write_pair-write-end-requires : goal.write_pair-write-end-requires
write_pair-write-end-requires t c =
    let h = c.halves.ensures in
    let len = mixed_length c.args.self.size c.args.self.cells _ _ _ _ c.requires.mixed h.low h.low_size h.high h.high_size in
    (omega (arith, h.smaller, h.high_size), omega (arith, len, length-set c.args.space.now c.args.at 40))

pub write_pair-bounds-space-end : goal.write_pair-bounds-space-end
write_pair-bounds-space-end t c =
    let h = c.halves.ensures in
    let len = mixed_length c.args.self.size c.args.self.cells _ _ _ _ c.requires.mixed h.low h.low_size h.high h.high_size in
    omega (arith, len, length-set c.args.space.now c.args.at 40)

pub write_pair-overflow_add-result : goal.write_pair-overflow_add-result
write_pair-overflow_add-result t c =
    let h = c.halves.ensures in
    let len = mixed_length c.args.self.size c.args.self.cells _ _ _ _ c.requires.mixed h.low h.low_size h.high h.high_size in
    let lt : c.write-end.result < length c.write-end.new.space = omega (arith, len, length-set c.args.space.now c.args.at 40) in
    search rules

pub write_pair-returns : goal.write_pair-returns
write_pair-returns t c =
    let h = c.halves.ensures in
    let len = mixed_length c.args.self.size c.args.self.cells _ _ _ _ c.requires.mixed h.low h.low_size h.high h.high_size in
    let w = mixed_text c.args.self.size c.args.self.cells _ _ _ _ c.requires.mixed h.low h.low_size h.high h.high_size in
    record {
      end = omega (arith, len);
      bytes =
          bracketed c.args.space.now c.write-mid.new.space c.write-end.new.space c.args.at c.write-mid.result c.write-end.result
          (text_of c.halves.result.0.size c.halves.result.0.cells) (text_of c.halves.result.1.size c.halves.result.1.cells)
          (omega (arith, len)) c.write-mid.ensures.bytes c.write-mid.ensures.end c.write-end.ensures.bytes c.write-end.ensures.end
          (omega (arith, len, length-set c.args.space.now c.args.at 40))
          ∙ ap (placed c.args.space.now c.args.at) (sym w);
    }
