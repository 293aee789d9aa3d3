use Rattle.out_texts.specs.Request.{resource_value}
use Rattle.out_texts.proofs.request.ResourceElement.build.Goals as goal

pub returns : goal.returns
unfolding resource_value
returns c =
    let resource = c.value-resource.ensures _ c.new.ensures in
    let built =
    c.finish.ensures _ (c.value.ensures _ (c.object.ensures _ _ c.new-2.ensures resource)) in
    rw (c.from.ensures, c.in_ok-scopes.ensures, c.in_ok-attributes.ensures, c.resource.ensures) at
    built
