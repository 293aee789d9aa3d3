use Rattle.out_texts.specs.Request.{scope_value}
use Rattle.out_texts.proofs.request.ScopeElement.build.Goals as goal

pub returns : goal.returns
unfolding scope_value
returns c =
    let scope = c.text-scope.ensures _ (c.text.ensures _ (c.value.ensures _ c.new.ensures)) in
    let built =
    c.finish.ensures _ (c.object.ensures _ _ (c.value-2.ensures _ c.new-2.ensures) scope) in
    rw (
      c.from.ensures,
      c.in_ok-metrics.ensures,
      c.in_ok-attributes.ensures,
      c.scope_attrs.ensures,
      c.as_str.ensures,
      c.scope_name.ensures,
      c.as_str-2.ensures,
      c.scope_version.ensures,
    ) at
    built
