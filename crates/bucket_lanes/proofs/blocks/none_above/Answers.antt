use Rattle.std.proofs.Common.{◌≡◌, ◌-◌, ◌^◌, ◌%◌, false, cond, ltb, length, map, arith, ap, ◌∙◌}
use Rattle.std.proofs.Common.{sym, w64}
use Rattle.std.proofs.lemmas.Bool.{ltb-false, le-ltb, eqb-true, eq-eqb}
use Rattle.std.proofs.lemmas.Simd.{tops_compared, mask_l-mod, length-zip2, get_or-zip2}
use lib.Lanes.{zip2, mask_l, top}
use Rattle.bucket_lanes.proofs.Lanes.{mask_zero, zero_mask}
use Rattle.bucket_lanes.proofs.blocks.none_above.Goals as goal

pub returns : goal.returns
returns c =
    let a = c.args.a in
    let m = c.args.most in
    let ms = zip2 ltb m a in
    let lm : length ms ≡ 8 = length-zip2 ltb m a (omega arith) ∙ c.requires.1 in
    let e : mask_l (map (top 63) (zip2 (λ x y. cond (ltb x y) (2 ^ 64 - 1) 0) m a)) % 2 ^ 64
    ≡ mask_l ms = ap (λ v. mask_l v % 2 ^ 64) (tops_compared w64 ltb m a)
    ∙ mask_l-mod ms 64 (omega arith) in (
      λ t k lt.
          let none : mask_l ms ≡ 0 = sym e ∙ eqb-true _ _ t in
          let at = mask_zero ms none k (omega arith) in
          ltb-false _ _ (sym (get_or-zip2 ltb m a k 0 0 false (omega arith) (omega arith)) ∙ at),
      λ all. eq-eqb _ _ (e ∙ zero_mask ms
          (λ k lt. get_or-zip2 ltb m a k 0 0 false (omega arith) (omega arith)
          ∙ le-ltb _ _ (all k (omega arith)))),
    )
