use Rattle.std.proofs.Common.{◌*◌, ◌%◌, ◌^◌, ◌<◌, Some, sym, ap, ◌∙◌, ap₂, subst}
use lib.Bits.{bit_or}
use Rattle.std.proofs.lemmas.Bool.{eqb-true}
use Rattle.trees.specs.Block.{kept_of}
use Rattle.trees.proofs.Sizes.{half_lt}
use Rattle.trees.proofs.Blocks.{not_one, kept_empty, kept_full, kept_low, kept_high, kept_both}
use Rattle.trees.proofs.block.Block.+halving.Goals as goal

pub kept-returns-then-self-eq0 : goal.kept-returns-then-self-eq0
kept-returns-then-self-eq0 t c = kept_empty c.args.self.size c.args.self.cells c.if-self-eq0.true

pub kept-returns-then-is_full : goal.kept-returns-then-is_full
kept-returns-then-is_full t c =
    c.kept_of_leaf.ensures
    ∙ kept_full c.args.self.size c.args.self.cells (record { sized = c.args.self.sized; fits = c.args.self.fits }) (eqb-true c.args.self.cells _ (sym c.is_full.ensures ∙ c.if-is_full.true))

pub kept_of_halves-returns-in_err-low : goal.kept_of_halves-returns-in_err-low
kept_of_halves-returns-in_err-low t c =
    let low = ap₂ kept_of c.halves.ensures.low_size c.halves.ensures.low in
    c.from_residual.ensures ∙ sym (kept_low c.args.self.size c.args.self.cells c.requires (sym (c.in_err-low.ensures ∙ low)))

pub kept_of_halves-returns-in_err-high : goal.kept_of_halves-returns-in_err-high
kept_of_halves-returns-in_err-high t c =
    let high = ap₂ kept_of c.halves.ensures.high_size c.halves.ensures.high in
    c.from_residual-in_err-high.ensures ∙ sym (kept_high c.args.self.size c.args.self.cells c.requires (sym (c.in_err-high.ensures ∙ high)))

pub kept_of_halves-overflow_shl-result : goal.kept_of_halves-overflow_shl-result
kept_of_halves-overflow_shl-result t c =
    subst (λ n. n < 64) (sym c.halves.ensures.low_size) (half_lt c.args.self.size c.args.self.sized (not_one c.args.self.size c.args.self.cells c.requires))

pub kept_of_halves-returns : goal.kept_of_halves-returns
kept_of_halves-returns t c =
    let low = ap₂ kept_of c.halves.ensures.low_size c.halves.ensures.low in
    let high = ap₂ kept_of c.halves.ensures.high_size c.halves.ensures.high in
    ap (λ n. Some (bit_or c.in_ok-low.low ((c.in_ok-high.high * 2 ^ n) % 2 ^ 64))) c.halves.ensures.low_size
    ∙ kept_both c.args.self.size c.args.self.cells c.requires c.in_ok-low.low c.in_ok-high.high (sym (c.in_ok-low.ensures ∙ low)) (sym (c.in_ok-high.ensures ∙ high))
