-- Lines read back, and a whole printout.
use Rattle.std.proofs.Common.{◌≡◌, ℕ, Bool, true, false, List, [], ◌∷◌, ◌++◌, length, length-append, IfSome, IfNone, Some, None, Option, append_assoc, append-nil, refl, ap, ap₂, sym, ◌∙◌, arith}
use Rattle.std.specs.List.{AllByRecursion}
use Rattle.std.specs.Fmt.{decimal}
use Rattle.std.proofs.lemmas.Fmt.{decimal_injective}
use Rattle.lines.specs.declared.line.totals.Totals.{Totals}
use Rattle.lines.specs.Lines.{letter, level_text, total_line}
use Rattle.replay.specs.Faults.{RefusedEvent}
use Rattle.printout.specs.Contents.{LeaseEntry, line_of_refusal, line_of_lease}
use Rattle.printout.proofs.Bytes.{refusal_bytes, lease_bytes, total_bytes, three_parts}
use Rattle.shares.specs.Text.{Lacks}
use Rattle.printout.specs.Readable.{Small, ReadableRefusal, ReadableLease, ReadableTotals, OneContents}
use Rattle.printout.specs.Tenancy.{tenancy_contents, OnePrintout}
use Rattle.printout.proofs.Cuts.{cut, decimal_numeral, decimal_lacks, one_number, numeral_begins, numeral_begins_above}

-- refused events

level_lacks : (l : Option ℕ) → IfSome l Small → Lacks 10 (level_text l)
level_lacks None h = ((λ e. omega (arith, e)), tt)
level_lacks (Some n) h = decimal_lacks 10 n (omega arith) h

one_level : (l k : Option ℕ) → IfSome l Small → IfSome k Small → level_text l ≡ level_text k → l ≡ k
one_level None None p q e = refl
one_level None (Some n) p q e = absurd (numeral_begins 45 (decimal n) [] [] (omega arith) (decimal_numeral n q) (simp append-nil e))
one_level (Some n) None p q e = absurd (numeral_begins 45 (decimal n) [] [] (omega arith) (decimal_numeral n p) (simp append-nil (sym e)))
one_level (Some m) (Some n) p q e = ap Some (decimal_injective m n p q e)

one_refusal : (x y : RefusedEvent) (u v : List ℕ) → ReadableRefusal x → ReadableRefusal y → line_of_refusal x ++ u ≡ line_of_refusal y ++ v → (x ≡ y) × (u ≡ v)
one_refusal x y u v p q e =
    let f : 33 ∷ 32 ∷ (decimal x.event ++ 32 ∷ (decimal x.number ++ 32 ∷ (level_text x.level ++ 10 ∷ u))) ≡ 33 ∷ 32 ∷ (decimal y.event ++ 32 ∷ (decimal y.number ++ 32 ∷ (level_text y.level ++ 10 ∷ v))) = simp append_assoc at e in
    let g : decimal x.event ++ 32 ∷ (decimal x.number ++ 32 ∷ (level_text x.level ++ 10 ∷ u)) ≡ decimal y.event ++ 32 ∷ (decimal y.number ++ 32 ∷ (level_text y.level ++ 10 ∷ v)) = cc in
    let a = one_number 32 x.event y.event _ _ (omega arith) p.event q.event g in
    let b = one_number 32 x.number y.number _ _ (omega arith) p.number q.number a.1 in
    let c = cut 10 (level_text x.level) (level_text y.level) u v (level_lacks x.level p.level) (level_lacks y.level q.level) b.1 in
    let d = one_level x.level y.level p.level q.level c.0 in
    ((λ i. record { event = a.0 i; number = b.0 i; level = d i }), c.1)

-- no line of a refused event begins so
abbrev Otherwise : List ℕ → Type 0
Otherwise u = (w : List ℕ) → u ≡ 33 ∷ w → ⊥

all_refusals : (xs ys : List RefusedEvent) (u v : List ℕ) → AllByRecursion ReadableRefusal xs → AllByRecursion ReadableRefusal ys → Otherwise u → Otherwise v → refusal_bytes xs ++ u ≡ refusal_bytes ys ++ v → (xs ≡ ys) × (u ≡ v)
all_refusals [] [] u v p q a b e = (refl, e)
all_refusals [] (y ∷ ys) u v p q a b e = absurd (a _ e)
all_refusals (x ∷ xs) [] u v p q a b e = absurd (b _ (sym e))
all_refusals (x ∷ xs) (y ∷ ys) u v p q a b e =
    let f = sym (append_assoc (line_of_refusal x) (refusal_bytes xs) u) ∙ e ∙ append_assoc (line_of_refusal y) (refusal_bytes ys) v in
    let r = one_refusal x y (refusal_bytes xs ++ u) (refusal_bytes ys ++ v) p.0 q.0 f in
    let s = all_refusals xs ys u v p.1 q.1 a b r.1 in
    (ap₂ (λ x xs. x ∷ xs) r.0 s.0, s.1)

-- live leases

one_letter : (a b : Bool) (u v : List ℕ) → letter a ++ 32 ∷ u ≡ letter b ++ 32 ∷ v → (a ≡ b) × (u ≡ v)
one_letter true true u v e = (refl, cc)
one_letter true false u v e = let z : ◌≡◌ {A = ℕ} 119 114 = cc in absurd (omega (arith, z))
one_letter false true u v e = let z : ◌≡◌ {A = ℕ} 114 119 = cc in absurd (omega (arith, z))
one_letter false false u v e = (refl, cc)

one_lease : (x y : LeaseEntry) (u v : List ℕ) → ReadableLease x → ReadableLease y → line_of_lease x ++ u ≡ line_of_lease y ++ v → (x ≡ y) × (u ≡ v)
one_lease x y u v p q e =
    let l = x.lease in
    let k = y.lease in
    let f : decimal l.number ++ 32 ∷ (decimal l.resource ++ 32 ∷ (decimal l.holder ++ 32 ∷ (decimal l.lender ++ 32 ∷ (decimal l.due ++ 32 ∷ (letter x.may_write ++ 32 ∷ (l.share ++ 10 ∷ u)))))) ≡ decimal k.number ++ 32 ∷ (decimal k.resource ++ 32 ∷ (decimal k.holder ++ 32 ∷ (decimal k.lender ++ 32 ∷ (decimal k.due ++ 32 ∷ (letter y.may_write ++ 32 ∷ (k.share ++ 10 ∷ v)))))) = simp append_assoc at e in
    let a = one_number 32 l.number k.number _ _ (omega arith) p.number q.number f in
    let b = one_number 32 l.resource k.resource _ _ (omega arith) p.resource q.resource a.1 in
    let c = one_number 32 l.holder k.holder _ _ (omega arith) p.holder q.holder b.1 in
    let d = one_number 32 l.lender k.lender _ _ (omega arith) p.lender q.lender c.1 in
    let g = one_number 32 l.due k.due _ _ (omega arith) p.due q.due d.1 in
    let h = one_letter x.may_write y.may_write _ _ g.1 in
    let t = cut 10 l.share k.share u v p.text q.text h.1 in
    ((λ i. record { lease = record { number = a.0 i; resource = b.0 i; holder = c.0 i; lender = d.0 i; due = g.0 i; share = t.0 i }; may_write = h.0 i }), t.1)

-- the line of the totals begins otherwise
no_lease : (x : LeaseEntry) (u v : List ℕ) → ReadableLease x → 61 ∷ u ≡ line_of_lease x ++ v → ⊥
no_lease x u v p e =
    let f : 61 ∷ u ≡ decimal x.lease.number ++ (32 ∷ (decimal x.lease.resource ++ 32 ∷ (decimal x.lease.holder ++ 32 ∷ (decimal x.lease.lender ++ 32 ∷ (decimal x.lease.due ++ 32 ∷ (letter x.may_write ++ 32 ∷ (x.lease.share ++ 10 ∷ v))))))) = simp append_assoc at e in
    numeral_begins_above 61 (decimal x.lease.number) u _ (omega arith) (decimal_numeral x.lease.number p.number) f

all_leases : (xs ys : List LeaseEntry) (u v : List ℕ) → AllByRecursion ReadableLease xs → AllByRecursion ReadableLease ys → lease_bytes xs ++ 61 ∷ u ≡ lease_bytes ys ++ 61 ∷ v → (xs ≡ ys) × (u ≡ v)
all_leases [] [] u v p q e = (refl, cc)
all_leases [] (y ∷ ys) u v p q e = absurd (no_lease y u (lease_bytes ys ++ 61 ∷ v) q.0 (e ∙ append_assoc (line_of_lease y) (lease_bytes ys) (61 ∷ v)))
all_leases (x ∷ xs) [] u v p q e = absurd (no_lease x v (lease_bytes xs ++ 61 ∷ u) p.0 (sym e ∙ append_assoc (line_of_lease x) (lease_bytes xs) (61 ∷ u)))
all_leases (x ∷ xs) (y ∷ ys) u v p q e =
    let f = sym (append_assoc (line_of_lease x) (lease_bytes xs) (61 ∷ u)) ∙ e ∙ append_assoc (line_of_lease y) (lease_bytes ys) (61 ∷ v) in
    let r = one_lease x y (lease_bytes xs ++ 61 ∷ u) (lease_bytes ys ++ 61 ∷ v) p.0 q.0 f in
    let s = all_leases xs ys u v p.1 q.1 r.1 in
    (ap₂ (λ x xs. x ∷ xs) r.0 s.0, s.1)

-- what follows the refused events begins otherwise
leases_otherwise : (xs : List LeaseEntry) (u : List ℕ) → AllByRecursion ReadableLease xs → Otherwise (lease_bytes xs ++ 61 ∷ u)
leases_otherwise [] u p w e = let z : ◌≡◌ {A = ℕ} 61 33 = cc in omega (arith, z)
leases_otherwise (x ∷ xs) u p w e =
    let f : 33 ∷ w ≡ decimal x.lease.number ++ (32 ∷ (decimal x.lease.resource ++ 32 ∷ (decimal x.lease.holder ++ 32 ∷ (decimal x.lease.lender ++ 32 ∷ (decimal x.lease.due ++ 32 ∷ (letter x.may_write ++ 32 ∷ (x.lease.share ++ 10 ∷ (lease_bytes xs ++ 61 ∷ u)))))))) = simp append_assoc at (sym e) in
    numeral_begins 33 (decimal x.lease.number) w _ (omega arith) (decimal_numeral x.lease.number p.0.number) f

-- the totals

one_total : (s t : Totals) → ReadableTotals s → ReadableTotals t → total_line s ≡ total_line t → s ≡ t
one_total s t p q e =
    let f : 61 ∷ 32 ∷ (decimal s.issued ++ 32 ∷ (decimal s.live ++ 32 ∷ (decimal s.yielded ++ 32 ∷ (decimal s.merged ++ 32 ∷ (decimal s.recalled ++ 32 ∷ (decimal s.lapsed ++ 10 ∷ [])))))) ≡ 61 ∷ 32 ∷ (decimal t.issued ++ 32 ∷ (decimal t.live ++ 32 ∷ (decimal t.yielded ++ 32 ∷ (decimal t.merged ++ 32 ∷ (decimal t.recalled ++ 32 ∷ (decimal t.lapsed ++ 10 ∷ [])))))) = simp append_assoc at e in
    let g : decimal s.issued ++ 32 ∷ (decimal s.live ++ 32 ∷ (decimal s.yielded ++ 32 ∷ (decimal s.merged ++ 32 ∷ (decimal s.recalled ++ 32 ∷ (decimal s.lapsed ++ 10 ∷ []))))) ≡ decimal t.issued ++ 32 ∷ (decimal t.live ++ 32 ∷ (decimal t.yielded ++ 32 ∷ (decimal t.merged ++ 32 ∷ (decimal t.recalled ++ 32 ∷ (decimal t.lapsed ++ 10 ∷ []))))) = cc in
    let a = one_number 32 s.issued t.issued _ _ (omega arith) p.issued q.issued g in
    let b = one_number 32 s.live t.live _ _ (omega arith) p.live q.live a.1 in
    let c = one_number 32 s.yielded t.yielded _ _ (omega arith) p.yielded q.yielded b.1 in
    let d = one_number 32 s.merged t.merged _ _ (omega arith) p.merged q.merged c.1 in
    let h = one_number 32 s.recalled t.recalled _ _ (omega arith) p.recalled q.recalled d.1 in
    let k = one_number 10 s.lapsed t.lapsed [] [] (omega arith) p.lapsed q.lapsed h.1 in
    λ i. record { issued = a.0 i; live = b.0 i; yielded = c.0 i; merged = d.0 i; recalled = h.0 i; lapsed = k.0 i }

-- the whole

nothing_otherwise : Otherwise []
nothing_otherwise w e = cc

-- a printout with totals goes on after its refused events
goes_on : (l : List LeaseEntry) (u : List ℕ) → lease_bytes l ++ 61 ∷ u ≡ [] → ⊥
goes_on l u e = let n = ap length e in let m = length-append (lease_bytes l) (61 ∷ u) in omega (arith, n, m)

one : (r r' : List RefusedEvent) (l l' : List LeaseEntry) (t t' : Option Totals) → AllByRecursion ReadableRefusal r → AllByRecursion ReadableRefusal r' → AllByRecursion ReadableLease l → AllByRecursion ReadableLease l' → IfSome t ReadableTotals → IfSome t' ReadableTotals → IfNone t (l ≡ []) → IfNone t' (l' ≡ [])
    → refusal_bytes r ++ (lease_bytes l ++ total_bytes t) ≡ refusal_bytes r' ++ (lease_bytes l' ++ total_bytes t') → (r ≡ r') × (l ≡ l') × (t ≡ t')
one r r' l l' (Some t) (Some t') p q a b u v c d e =
    let g = all_refusals r r' _ _ p q (leases_otherwise l _ a) (leases_otherwise l' _ b) e in
    let h = all_leases l l' _ _ a b g.1 in
    (g.0, h.0, ap Some (one_total t t' u v (ap (λ z. 61 ∷ z) h.1)))
one r r' l l' None None p q a b u v c d e =
    let f : refusal_bytes r ++ [] ≡ refusal_bytes r' ++ [] = ap (λ (z : List LeaseEntry). refusal_bytes r ++ (lease_bytes z ++ [])) (sym c) ∙ e ∙ ap (λ (z : List LeaseEntry). refusal_bytes r' ++ (lease_bytes z ++ [])) d in
    let g = all_refusals r r' [] [] p q nothing_otherwise nothing_otherwise f in
    (g.0, c ∙ sym d, refl)
one r r' l l' (Some t) None p q a b u v c d e =
    let f : refusal_bytes r ++ (lease_bytes l ++ total_line t) ≡ refusal_bytes r' ++ [] = e ∙ ap (λ (z : List LeaseEntry). refusal_bytes r' ++ (lease_bytes z ++ [])) d in
    let g = all_refusals r r' _ [] p q (leases_otherwise l _ a) nothing_otherwise f in
    absurd (goes_on l _ g.1)
one r r' l l' None (Some t) p q a b u v c d e =
    let f : refusal_bytes r' ++ (lease_bytes l' ++ total_line t) ≡ refusal_bytes r ++ [] = sym e ∙ ap (λ (z : List LeaseEntry). refusal_bytes r ++ (lease_bytes z ++ [])) c in
    let g = all_refusals r' r _ [] q p (leases_otherwise l' _ b) nothing_otherwise f in
    absurd (goes_on l' _ g.1)

pub one_shown : OneContents
one_shown p q a b e =
    let f = sym (append_assoc (refusal_bytes p.refusals) (lease_bytes p.leases) (total_bytes p.totals)) ∙ sym (three_parts p) ∙ e ∙ three_parts q ∙ append_assoc (refusal_bytes q.refusals) (lease_bytes q.leases) (total_bytes q.totals) in
    let r = one p.refusals q.refusals p.leases q.leases p.totals q.totals a.refusals b.refusals a.leases b.leases a.totals b.totals a.whole b.whole f in
    λ i. record { refusals = r.0 i; leases = r.1 i; totals = r.2 i }

pub one_printout : OnePrintout
one_printout a b p q e = one_shown (tenancy_contents a) (tenancy_contents b) p q e
