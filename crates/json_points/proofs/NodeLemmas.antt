-- What `serde_json` makes of a value, level by level.
use Rattle.std.proofs.Common.{◌≡◌, ℕ, ◌≤◌, List, [], ◌∷◌, length, Bool, true, false, cond, Option}
use Rattle.std.proofs.Common.{Some, None, option_map, option_and_then, unwrap_or, refl, sym, ap}
use Rattle.std.proofs.Common.{◌∙◌, subst, arith, length-append}
use Rattle.std.specs.Prelude.{MatchOption, is_some}
use Rattle.std.specs.Str.{bytes_eq}
use Rattle.std.proofs.lemmas.Slice.Eq.{bytes_eq-Decides}
use Rattle.json.specs.Token.{Token}
use Rattle.json.specs.Json as json
use Rattle.json.specs.Json.{Json, value}
use Rattle.json.specs.Tree.{json_tokens, items_tokens, members_tokens, depth, items_depth}
use Rattle.json.specs.Tree.{members_depth}
use Rattle.json.specs.Find as find
use Rattle.json.specs.Find.{BeginsWith, InItems, InMembers, NextItem, NextMember, Finds, later_or}
use Rattle.json.proofs.Printed.Trees.{value-json_tokens}
use Rattle.json.proofs.Unique.Spelling.{value-json_tokens_back}
use Rattle.serde_json.specs.Data.{Num, Data, null, boolean, number, string, array, object, Items}
use Rattle.serde_json.specs.Data.{item, Members, no_members, put}
use Rattle.serde_json.specs.Read.{number_of, of_json, of_items, of_members}
use Rattle.serde_json.specs.Find.{get, get_member, as_str, as_bool, as_number, as_array}
use Rattle.serde_json.proofs.Views.{get_member-put, get_member-put_other}
use Rattle.otlp_read.specs.Containers.{is_object, elements}
use Rattle.otlp_read.specs.Fields.{present}
use Rattle.json_points.specs.inner.Nodes.{data_at, IsNode, AreItems, AreMembers}

-- ---- a value nests no deeper than it has tokens

mutual
  deep_json : (j : Json) → depth j ≤ length (json_tokens j)
  deep_json json.null = omega arith
  deep_json (json.boolean b) = omega arith
  deep_json (json.number s) = omega arith
  deep_json (json.string s) = omega arith
  deep_json (json.array js) = omega (arith, deep_items js)
  deep_json (json.object ms) = omega (arith, deep_members ms)

  deep_items : (js : json.Items) → items_depth js ≤ length (items_tokens js)
  deep_items json.no_items = omega arith
  deep_items (json.item j js) =
      omega (arith, deep_json j, deep_items js, length-append (json_tokens j) (items_tokens js))

  deep_members : (ms : json.Members) → members_depth ms ≤ length (members_tokens ms)
  deep_members json.no_members = omega arith
  deep_members (json.member k j ms) =
      omega (arith, deep_json j, deep_members ms, length-append (json_tokens j) (members_tokens ms))

-- so the count of the tokens bounds the depth of the first value
whole_depth : (ts : List Token) (j : Json) → BeginsWith ts j
    → (r : List Token) × (value (length ts) ts ≡ Some (j, r))
whole_depth ts j h =
    let is = value-json_tokens_back h.0 ts h.1 j h.2 in
    let enough : depth j ≤ length ts =
    omega (arith, ap length is, length-append (json_tokens j) h.1, deep_json j) in
    (h.1, ap (value (length ts)) is ∙ value-json_tokens j (length ts) h.1 enough)

pub data_is : (ts : List Token) (j : Json) (d : Data) → BeginsWith ts j → of_json j ≡ Some d
    → data_at ts ≡ d
unfolding data_at
data_is ts j d h e =
    let w = whole_depth ts j h in
    ap (λ o. unwrap_or (option_and_then (λ p. of_json p.0) o) null) w.1
    ∙ ap (λ o. unwrap_or o null) e

pub node_is : (ts : List Token) (j : Json) (d : Data) → BeginsWith ts j → of_json j ≡ Some d
    → IsNode ts
node_is ts j d h e =
    record { json = j; begins = h; says = e ∙ ap (λ x. Some x) (sym (data_is ts j d h e)) }

-- ---- which data a value is

abbrev pub Same : Json → Data → Type 0
Same json.null d = d ≡ null
Same (json.boolean b) d = d ≡ boolean b
Same (json.number s) d = (n : Num) × (number_of s ≡ Some n) × (d ≡ number n)
Same (json.string s) d = d ≡ string s
Same (json.array js) d = (ds : Items) × (of_items js ≡ Some ds) × (d ≡ array ds)
Same (json.object ms) d = (all : Members) × (of_members ms no_members ≡ Some all) × (d ≡ object all)

made : {A : Type 0} (c : A → Data) (o : Option A) (d : Data) → option_map c o ≡ Some d
    → (a : A) × (o ≡ Some a) × (d ≡ c a)
made c None d e = absurd cc
made c (Some a) d e = (a, refl, cc)

pub same : (j : Json) (d : Data) → of_json j ≡ Some d → Same j d
same json.null d e = cc
same (json.boolean b) d e = cc
same (json.number s) d e = made number (number_of s) d e
same (json.string s) d e = cc
same (json.array js) d e = made array (of_items js) d e
same (json.object ms) d e = made object (of_members ms no_members) d e

pub str_same : (j : Json) (d : Data) → Same j d → find.as_str j ≡ as_str d
str_same json.null d e = rw e refl
str_same (json.boolean b) d e = rw e refl
str_same (json.number s) d e = rw e.2 refl
str_same (json.string s) d e = rw e refl
str_same (json.array js) d e = rw e.2 refl
str_same (json.object ms) d e = rw e.2 refl

pub bool_same : (j : Json) (d : Data) → Same j d → find.as_bool j ≡ as_bool d
bool_same json.null d e = rw e refl
bool_same (json.boolean b) d e = rw e refl
bool_same (json.number s) d e = rw e.2 refl
bool_same (json.string s) d e = rw e refl
bool_same (json.array js) d e = rw e.2 refl
bool_same (json.object ms) d e = rw e.2 refl

-- the value under f, unless it is null
pub present_same : (j : Json) (d : Data) → Same j d
    → (cond (find.is_null j) None (Some d)) ≡ present (Some d)
present_same json.null d e = rw e refl
present_same (json.boolean b) d e = rw e refl
present_same (json.number s) d e = rw e.2 refl
present_same (json.string s) d e = rw e refl
present_same (json.array js) d e = rw e.2 refl
present_same (json.object ms) d e = rw e.2 refl

pub number_same : (j : Json) (d : Data) (s : List ℕ) → Same j d → find.as_number j ≡ Some s
    → (n : Num) × (number_of s ≡ Some n) × (d ≡ number n)
number_same json.null d s e is = absurd cc
number_same (json.boolean b) d s e is = absurd cc
number_same (json.number t) d s e is = let t_is : t ≡ s = cc in
    (e.0, ap number_of (sym t_is) ∙ e.1, e.2)
number_same (json.string t) d s e is = absurd cc
number_same (json.array js) d s e is = absurd cc
number_same (json.object ms) d s e is = absurd cc

pub no_number : (j : Json) (d : Data) → Same j d → find.as_number j ≡ None → as_number d ≡ None
no_number json.null d e is = rw e refl
no_number (json.boolean b) d e is = rw e refl
no_number (json.number t) d e is = absurd cc
no_number (json.string t) d e is = rw e refl
no_number (json.array js) d e is = rw e.2 refl
no_number (json.object ms) d e is = rw e.2 refl

pub object_same : (j : Json) (d : Data) → Same j d → is_some (find.as_object j) ≡ is_object d
object_same json.null d e = rw e refl
object_same (json.boolean b) d e = rw e refl
object_same (json.number s) d e = rw e.2 refl
object_same (json.string s) d e = rw e refl
object_same (json.array js) d e = rw e.2 refl
object_same (json.object ms) d e = rw e.2 refl

pub no_array : (j : Json) (d : Data) → Same j d → find.as_array j ≡ None → as_array d ≡ None
no_array json.null d e is = rw e refl
no_array (json.boolean b) d e is = rw e refl
no_array (json.number t) d e is = rw e.2 refl
no_array (json.string t) d e is = rw e refl
no_array (json.array js) d e is = absurd cc
no_array (json.object ms) d e is = rw e.2 refl

pub array_same : (js : json.Items) (d : Data) → Same (json.array js) d
    → (ds : List Data) × (option_map elements (as_array d) ≡ Some ds)
    × (option_map elements (of_items js) ≡ Some ds)
array_same js d e =
    (elements e.0, ap (λ x. option_map elements (as_array x)) e.2, ap (option_map elements) e.1)

-- ---- members

-- the data of what was found, or what was there before
abbrev found_or : Option Json → Option Data → Option Data
found_or None before = before
found_or (Some j) before = of_json j

pub get_more : (name : List ℕ) (ms : json.Members) (before all : Members)
    → of_members ms before ≡ Some all
    → get_member name all ≡ found_or (find.get_member name ms) (get_member name before)
get_more name json.no_members before all e = let is : before ≡ all = cc in
    ap (get_member name) (sym is)
get_more name (json.member k j ms) before all e =
    go (of_json j) refl (λ d h. get_more name ms (put k d before) all h) e
  where
    here : (d : Data) (b : Bool) → bytes_eq k name ≡ b → of_json j ≡ Some d → (later : Option Json)
        → found_or later (get_member name (put k d before))
        ≡ found_or (later_or later (cond b (Some j) None)) (get_member name before)
    here d true is read None = let k_is : k ≡ name = (bytes_eq-Decides k name).0 is in
        ap (λ n. get_member n (put k d before)) (sym k_is) ∙ get_member-put k d before ∙ sym read
    here d false is read None = get_member-put_other name k d before
        (λ same. let one : bytes_eq k name ≡ true = (bytes_eq-Decides k name).1 (sym same) in
        absurd cc)
    here d b is read (Some i) = refl

    go : (o : Option Data) → of_json j ≡ o
        → ((d : Data) → of_members ms (put k d before) ≡ Some all
        → get_member name all
        ≡ found_or (find.get_member name ms) (get_member name (put k d before)))
        → option_and_then (λ d. of_members ms (put k d before)) o ≡ Some all
        → get_member name all
        ≡ found_or (find.get_member name (json.member k j ms)) (get_member name before)
    go None read more h = absurd cc
    go (Some d) read more h =
        more d h ∙ here d (bytes_eq k name) refl read (find.get_member name ms)

pub get_same : (name : List ℕ) (j : Json) (d : Data) → Same j d
    → get name d ≡ found_or (find.get name j) None
get_same name json.null d e = rw e refl
get_same name (json.boolean b) d e = rw e refl
get_same name (json.number s) d e = rw e.2 refl
get_same name (json.string s) d e = rw e refl
get_same name (json.array js) d e = rw e.2 refl
get_same name (json.object ms) d e = rw e.2 (get_more name ms no_members e.0 e.1)

-- each member is a value that `serde_json` reads
pub member_read : (name : List ℕ) (ms : json.Members) (before all : Members) (i : Json)
    → of_members ms before ≡ Some all → find.get_member name ms ≡ Some i
    → (d : Data) × (of_json i ≡ Some d)
member_read name json.no_members before all i e is = absurd cc
member_read name (json.member k j ms) before all i e is =
    go (of_json j) refl (λ d h l some. member_read name ms (put k d before) all l h some) e
  where
    pick : (d : Data) → of_json j ≡ Some d
        → ((l : Json) → find.get_member name ms ≡ Some l → (x : Data) × (of_json l ≡ Some x))
        → (later : Option Json) → find.get_member name ms ≡ later
        → (b : Bool) → later_or later (cond b (Some j) None) ≡ Some i
        → (x : Data) × (of_json i ≡ Some x)
    pick d read more None none true it = let j_is : j ≡ i = cc in (d, ap of_json (sym j_is) ∙ read)
    pick d read more None none false it = absurd cc
    pick d read more (Some l) some b it = let l_is : l ≡ i = cc in
        more i (some ∙ ap (λ x. Some x) l_is)

    go : (o : Option Data) → of_json j ≡ o
        → ((d : Data) → of_members ms (put k d before) ≡ Some all → (l : Json)
        → find.get_member name ms ≡ Some l → (x : Data) × (of_json l ≡ Some x))
        → option_and_then (λ d. of_members ms (put k d before)) o ≡ Some all
        → (x : Data) × (of_json i ≡ Some x)
    go None read more h = absurd cc
    go (Some d) read more h =
        pick d read (more d h) (find.get_member name ms) refl (bytes_eq k name) is

pub found_read : (name : List ℕ) (j : Json) (d : Data) (i : Json) → Same j d
    → find.get name j ≡ Some i → (x : Data) × (of_json i ≡ Some x)
found_read name json.null d i e is = absurd cc
found_read name (json.boolean b) d i e is = absurd cc
found_read name (json.number s) d i e is = absurd cc
found_read name (json.string s) d i e is = absurd cc
found_read name (json.array js) d i e is = absurd cc
found_read name (json.object ms) d i e is = member_read name ms no_members e.0 i e.1 is

-- ---- items

one_item : (j : Json) (js : json.Items) (ds : List Data)
    → option_map elements (of_items (json.item j js)) ≡ Some ds
    → (d : Data) × (of_json j ≡ Some d) × (rest : List Data)
    × (option_map elements (of_items js) ≡ Some rest) × (ds ≡ d ∷ rest)
one_item j js ds e = go (of_json j) (of_items js) refl refl e
  where
    go : (o : Option Data) (p : Option Items) → of_json j ≡ o → of_items js ≡ p
        → option_map elements (option_and_then (λ d. option_map (item d) p) o) ≡ Some ds
        → (d : Data) × (of_json j ≡ Some d) × (rest : List Data)
        × (option_map elements (of_items js) ≡ Some rest) × (ds ≡ d ∷ rest)
    go None p read more h = absurd cc
    go (Some d) None read more h = absurd cc
    go (Some d) (Some is) read more h = (d, read, elements is, ap (option_map elements) more, cc)

-- the next item, and those after it
pub next_item : (ts next new : List Token) (ds : List Data) → AreItems ts ds
    → NextItem ts (Some next) new
    → (rest : List Data) × (ds ≡ data_at next ∷ rest) × AreItems new rest × IsNode next
next_item ts next new ds has is =
    let f = is has.items has.inside in
    let one =
    one_item f.0 f.1 ds (ap (λ js. option_map elements (of_items js)) (sym f.2) ∙ has.says) in (
      one.2,
      one.4 ∙ ap (λ d. d ∷ one.2) (sym (data_is next f.0 one.0 f.3 one.1)),
      record { items = f.1; inside = f.4; says = one.3 },
      node_is next f.0 one.0 f.3 one.1,
    )

pub no_item : (ts new : List Token) (ds : List Data) → AreItems ts ds → NextItem ts None new
    → ds ≡ []
no_item ts new ds has is =
    let none : has.items ≡ json.no_items = is has.items has.inside in
    let e = ap (λ js. option_map elements (of_items js)) (sym none) ∙ has.says in cc

-- ---- the members one by one

one_member : (k : List ℕ) (j : Json) (ms : json.Members) (before : Members) (d : Data)
    → option_map object (of_members (json.member k j ms) before) ≡ Some d
    → (x : Data) × (of_json j ≡ Some x)
    × (option_map object (of_members ms (put k x before)) ≡ Some d)
one_member k j ms before d e = go (of_json j) refl e
  where
    go : (o : Option Data) → of_json j ≡ o
        → option_map object (option_and_then (λ x. of_members ms (put k x before)) o) ≡ Some d
        → (x : Data) × (of_json j ≡ Some x)
        × (option_map object (of_members ms (put k x before)) ≡ Some d)
    go None read h = absurd cc
    go (Some x) read h = (x, read, h)

-- the next member, and those after it
pub next_member : (ts next new : List Token) (k : List ℕ) (before : Members) (d : Data)
    → AreMembers ts before d → NextMember ts (Some (k, next)) new
    → AreMembers new (put k (data_at next) before) d × IsNode next
next_member ts next new k before d has is =
    let f = is has.members has.inside in
    let one = one_member k f.0 f.1 before d
    (ap (λ js. option_map object (of_members js before)) (sym f.2) ∙ has.says) in
    let there : data_at next ≡ one.0 = data_is next f.0 one.0 f.3 one.1 in (
      record {
        members = f.1;
        inside = f.4;
        says =
            ap (λ x. option_map object (of_members f.1 (put k x before))) there ∙ one.2;
      },
      node_is next
          f.0 one.0 f.3 one.1,
    )

pub no_member : (ts new : List Token) (before : Members) (d : Data) → AreMembers ts before d
    → NextMember ts None new → d ≡ object before
no_member ts new before d has is =
    let none : has.members ≡ json.no_members = is has.members has.inside in
    let e = ap (λ js. option_map object (of_members js before)) (sym none) ∙ has.says in cc

-- ---- what the calls of a tape answer

-- what was found at a name
pub found_is : (ts : List Token) (name : List ℕ) (r : Option (List Token)) → IsNode ts
    → ((j : Json) → BeginsWith ts j → Finds r (find.get name j))
    → option_map data_at r ≡ get name (data_at ts)
found_is ts name None node finds =
    let none : find.get name node.json ≡ None = finds node.json node.begins in
    sym (get_same name node.json _ (same node.json _ node.says) ∙ ap (λ o. found_or o None) none)
found_is ts name (Some at) node finds =
    let f = finds node.json node.begins in
    let d = found_read name node.json _ f.0 (same node.json _ node.says) f.1 in
    ap (λ x. Some x) (data_is at f.0 d.0 f.2 d.1) ∙ sym d.1
    ∙ sym (get_same name node.json _ (same node.json _ node.says)
    ∙ ap (λ o. found_or o None) f.1)

-- and it is a value that is read
pub found_node : (ts : List Token) (name : List ℕ) (at : List Token) → IsNode ts
    → ((j : Json) → BeginsWith ts j → Finds (Some at) (find.get name j)) → IsNode at
found_node ts name at node finds =
    let f = finds node.json node.begins in
    let d = found_read name node.json _ f.0 (same node.json _ node.says) f.1 in
    node_is at f.0 d.0 f.2 d.1

-- what is an object
abbrev pub FoundMembers : Option (List Token) → Json → Type 0
FoundMembers r j = MatchOption r (find.as_object j ≡ None)
    (λ rest. (ms : json.Members) × (j ≡ json.object ms) × InMembers rest ms)

pub object_found : (ts : List Token) (r : Option (List Token)) → IsNode ts
    → ((j : Json) → BeginsWith ts j → FoundMembers r j) → is_some r ≡ is_object (data_at ts)
object_found ts None node found = sym (ap (λ o. is_some o) (found node.json node.begins))
    ∙ object_same node.json _ (same node.json _ node.says)
object_found ts (Some inside) node found =
    let f = found node.json node.begins in
    sym (ap (λ j. is_some (find.as_object j)) f.1)
    ∙ object_same node.json _ (same node.json _ node.says)

pub members_found : (ts : List Token) (r : Option (List Token)) (inside : List Token) → IsNode ts
    → ((j : Json) → BeginsWith ts j → FoundMembers r j) → r ≡ Some inside
    → AreMembers inside no_members (data_at ts)
members_found ts None inside node found is = absurd cc
members_found ts (Some at) inside node found is =
    let f = found node.json node.begins in
    let at_is : at ≡ inside = cc in
    let all = subst (λ j. Same j (data_at ts)) f.1 (same node.json _ node.says) in
    record {
      members = f.0;
      inside = subst (λ x. InMembers x f.0) at_is f.2;
      says =
          ap (option_map object) all.1 ∙ ap (λ x. Some x) (sym all.2);
    }

-- the items of an array
abbrev pub FoundItems : Option (List Token) → Json → Type 0
FoundItems r j = MatchOption r (find.as_array j ≡ None)
    (λ rest. (js : json.Items) × (j ≡ json.array js) × InItems rest js)

pub items_found : (ts : List Token) (r : Option (List Token)) (inside : List Token) → IsNode ts
    → ((j : Json) → BeginsWith ts j → FoundItems r j) → r ≡ Some inside
    → (ds : List Data) × (option_map elements (as_array (data_at ts)) ≡ Some ds)
    × AreItems inside ds
items_found ts None inside node found is = absurd cc
items_found ts (Some at) inside node found is =
    let f = found node.json node.begins in
    let at_is : at ≡ inside = cc in
    let a = array_same f.0 (data_at ts)
    (subst (λ j. Same j (data_at ts)) f.1 (same node.json _ node.says)) in
    (a.0, a.1, record { items = f.0; inside = subst (λ x. InItems x f.0) at_is f.2; says = a.2 })

pub no_items_found : (ts : List Token) (r : Option (List Token)) → IsNode ts
    → ((j : Json) → BeginsWith ts j → FoundItems r j) → r ≡ None → as_array (data_at ts) ≡ None
no_items_found ts None node found is =
    no_array node.json _ (same node.json _ node.says) (found node.json node.begins)
no_items_found ts (Some at) node found is = absurd cc
