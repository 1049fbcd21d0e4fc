use Rattle.std.proofs.Common.{◌≡◌, ℕ, ◌+◌, ◌<◌, List, ◌∷◌, length, get_or, drop, Some, None, sym, ap, ◌∙◌}
use Rattle.std.proofs.lemmas.List.{at_drop_more, at_drop_all}
use Rattle.shares.specs.Kind.{Kind, Laws}
use Rattle.shares.specs.Joins.{together}
use Rattle.shares.proofs.Sums.{plus?, plus_join, plus_none, plus_assoc, plus_nothing, nothing_plus, together_plus, any_way, every_way}
use Rattle.shares.proofs.joins.add_up.Goals as goal

module _ {S : Type 0} (K : Kind S) (L : Laws K) where
  -- the next share taken from those to come
  step : (xs : List S) (i : ℕ) (x sum : S) → i < length xs → x ≡ get_or xs i x
      → plus? K (Some sum) (together K (drop i xs)) ≡ plus? K (K.join sum x) (together K (drop (i + 1) xs))
  step xs i x sum h e =
      let rest = together K (drop (i + 1) xs) in
      ap (plus? K (Some sum)) (at_drop_more (together K) xs i x h ∙ ap (λ y. together K (y ∷ drop (i + 1) xs)) (sym e) ∙ together_plus K x (drop (i + 1) xs))
      ∙ sym (plus_assoc K L (Some sum) (Some x) rest) ∙ ap (λ o. plus? K o rest) (plus_join K sum x)

pub loop-share-init : goal.loop-share-init
loop-share-init g c =
    let K = g.S.Share.kind in
    ap (λ e. plus? K (Some e) (together K c.args.shares.now)) c.empty-sum.ensures ∙ nothing_plus K g.met.S.Share.laws (together K c.args.shares.now)

pub returns-in_err-sum : goal.returns-in_err-sum
returns-in_err-sum g c =
    let K = g.S.Share.kind in
    let L = g.met.S.Share.laws in
    let xs = c.args.shares.now in
    let undefined : K.join c.loop-share.sum c.share-item.result ≡ None = sym c.join.ensures ∙ c.in_err-sum.was in
    let rest = together K (drop (c.loop-share.share-index + 1) xs) in
    let is : c.from_residual.result ≡ together K xs =
    c.from_residual.ensures ∙ sym (plus_none K rest) ∙ sym (ap (λ o. plus? K o rest) undefined)
    ∙ sym (step K L xs c.loop-share.share-index c.share-item.result c.loop-share.sum c.loop-share-test.true c.share-item.is) ∙ c.loop-share.invariant in
    record { is = is; any_way = λ h p. any_way K L xs h p ∙ sym is; every_way = every_way K L }

pub loop-share-preserved : goal.loop-share-preserved
loop-share-preserved g c =
    let K = g.S.Share.kind in
    let L = g.met.S.Share.laws in
    let xs = c.args.shares.now in
    let sum : K.join c.loop-share.sum c.share-item.result ≡ Some c.in_ok-sum.sum = sym c.join.ensures ∙ c.in_ok-sum.was in
    ap (λ o. plus? K o (together K (drop (c.loop-share.share-index + 1) xs))) (sym sum)
    ∙ sym (step K L xs c.loop-share.share-index c.share-item.result c.loop-share.sum c.loop-share-test.true c.share-item.is) ∙ c.loop-share.invariant

pub returns : goal.returns
returns g c =
    let K = g.S.Share.kind in
    let L = g.met.S.Share.laws in
    let xs = c.args.shares.now in
    let is : Some c.loop-share.sum ≡ together K xs =
    sym (plus_nothing K L (Some c.loop-share.sum)) ∙ sym (ap (plus? K (Some c.loop-share.sum)) (at_drop_all (together K) xs c.loop-share.share-index c.loop-share-test.false)) ∙ c.loop-share.invariant in
    record { is = is; any_way = λ h p. any_way K L xs h p ∙ sym is; every_way = every_way K L }
