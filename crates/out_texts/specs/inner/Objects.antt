-- Objects under construction.
use Rattle.std.specs.Prelude.{◌≡◌, IfSome}
use Rattle.serde_json.specs.Data.{Members}
use Rattle.serde_json.specs.View.{members_view}
use Rattle.out_texts.specs.declared.objects.Object.{Object}

-- the object has these members, unless an allocation failed
abbrev pub HasMembers : Object → Members → Type 0
HasMembers o ms = IfSome o.map (λ m. members_view m.entries ≡ ms)
