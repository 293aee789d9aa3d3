-- A plain text is one that `serde_json` reads.
use Rattle.std.proofs.Common.{◌≡◌, ℕ, zero, suc, ◌+◌, ◌-◌, ◌≤◌, ◌<◌, max, List, [], ◌∷◌, ◌++◌}
use Rattle.std.proofs.Common.{length, drop, Option, Some, None, option_map, option_and_then, refl}
use Rattle.std.proofs.Common.{sym, ap, ◌∙◌, subst, arith, append_assoc, append-nil, true}
use Rattle.std.specs.Prelude.{is_some, IfSome}
use Rattle.json.specs.Token.{Token}
use Rattle.json.specs.Lex.{tokens}
use Rattle.json.specs.Json as json
use Rattle.json.specs.Json.{Json, value, if_last, document}
use Rattle.json.specs.Tree.{json_tokens, items_tokens, members_tokens, depth, items_depth}
use Rattle.json.specs.Tree.{members_depth}
use Rattle.json.proofs.Printed.Trees.{value-json_tokens}
use Rattle.json.proofs.Unique.Spelling.{tokens-document}
use Rattle.serde_json.specs.View.{number_view}
use Rattle.serde_json.specs.declared.number.Number.{Number}
use Rattle.serde_json.specs.Data.{Data, Num, null, boolean, number, string, array, object, Items}
use Rattle.serde_json.specs.Data.{no_items, item, Members, no_members, put}
use Rattle.serde_json.specs.Read.{number_of, of_json, of_items, of_members, read}
use Rattle.json_points.specs.inner.Plain.{Plain}
use Rattle.json_points.specs.declared.plain.TheConstants.{MAX_OPEN}

-- a value is read, nests within what is left, and what follows is plain
pub record Fits {A : Type 0} (o : Option A) (nests level : ℕ) (rest : List Token) : Type 0 where
  pub read : A
  pub is : o ≡ Some read
  pub within : level + nests ≤ MAX_OPEN
  pub after : Plain level rest

mutual
  unfolding Plain

  fits_json : (j : Json) (level : ℕ) (rest : List Token) → level ≤ MAX_OPEN
      → Plain level (json_tokens j ++ rest) → Fits (of_json j) (depth j) level rest
  fits_json json.null level rest few h =
      record { read = null; is = refl; within = omega arith; after = h }
  fits_json (json.boolean b) level rest few h =
      record { read = boolean b; is = refl; within = omega arith; after = h }
  fits_json (json.number s) level rest few h =
      record {
        read = number h.0.0;
        is = ap (option_map number) h.0.1;
        within = omega arith;
        after =
            h.1;
      }
  fits_json (json.string s) level rest few h =
      record { read = string s; is = refl; within = omega arith; after = h }
  fits_json (json.array js) level rest few h =
      let f = fits_items js level rest h.0 h.1 in
      record {
        read = array f.read;
        is = ap (option_map array) f.is;
        within =
            omega (arith, f.within);
        after = f.after;
      }
  fits_json (json.object ms) level rest few h =
      let f = fits_members ms no_members level rest h.0 h.1 in
      record {
        read = object f.read;
        is = ap (option_map object) f.is;
        within =
            omega (arith, f.within);
        after = f.after;
      }

  fits_items : (js : json.Items) (level : ℕ) (rest : List Token) → level < MAX_OPEN
      → Plain (suc level) (items_tokens js ++ rest)
      → Fits (of_items js) (suc (items_depth js)) level rest
  fits_items json.no_items level rest few h =
      record { read = no_items; is = refl; within = omega arith; after = h }
  fits_items (json.item j js) level rest few h =
      let first = fits_json j (suc level) (items_tokens js ++ rest) (omega arith)
      (subst (Plain (suc level)) (append_assoc (json_tokens j) (items_tokens js) rest) h) in
      let more = fits_items js level rest few first.after in
      record {
        read = item first.read more.read;
        is = ap (option_and_then (λ d. option_map (item d) (of_items js))) first.is
            ∙ ap (option_map (item first.read)) more.is;
        within = omega (arith, first.within, more.within);
        after = more.after;
      }

  fits_members : (ms : json.Members) (found : Members) (level : ℕ) (rest : List Token)
      → level < MAX_OPEN → Plain (suc level) (members_tokens ms ++ rest)
      → Fits (of_members ms found) (suc (members_depth ms)) level rest
  fits_members json.no_members found level rest few h =
      record { read = found; is = refl; within = omega arith; after = h }
  fits_members (json.member k j ms) found level rest few h =
      let first = fits_json j (suc level) (members_tokens ms ++ rest) (omega arith)
      (subst (Plain (suc level)) (append_assoc (json_tokens j) (members_tokens ms) rest) h) in
      let more = fits_members ms (put k first.read found) level rest few first.after in
      record {
        read = more.read;
        is = ap (option_and_then (λ d. of_members ms (put k d found))) first.is ∙ more.is;
        within = omega (arith, first.within, more.within);
        after = more.after;
      }

-- what a text is whose tokens are plain
pub record Reads (text : List ℕ) (j : Json) : Type 0 where
  pub value_of : Data
  pub of : of_json j ≡ Some value_of
  pub is : read text ≡ Some value_of

pub plain_text : (text : List ℕ) (j : Json) → document text ≡ Some j → Plain 0 (tokens text)
    → Reads text j
plain_text text j e h =
    let spelled : tokens text ≡ json_tokens j ++ [] =
    tokens-document text j e ∙ sym (append-nil (json_tokens j)) in
    let f = fits_json j 0 [] (omega arith) (subst (Plain 0) spelled h) in
    let grammar : value 127 (tokens text) ≡ Some (j, []) =
    ap (value 127) spelled ∙ value-json_tokens j 127 [] (omega (arith, f.within)) in
    record {
      value_of = f.read;
      of = f.is;
      is =
          ap (λ o. option_and_then of_json (option_and_then (λ p. if_last p.0 p.1) o)) grammar
          ∙ f.is;
    }

-- ---- a turn of the look over the tape

pub weaker : {A : Type 0} (o : Option A) (P Q : A → Type 0) → ((a : A) → P a → Q a) → IfSome o P
    → IfSome o Q
weaker None P Q f h = tt
weaker (Some a) P Q f h = f a h

pub began_object : (level n : ℕ) (ts : List Token) → n ≡ level + 1 → level < MAX_OPEN → Plain n ts
    → Plain level (Token.begin_object ∷ ts)
unfolding Plain
began_object level n ts is few h = let e : n ≡ suc level = omega arith in
    (few, subst (λ k. Plain k ts) e h)

pub began_array : (level n : ℕ) (ts : List Token) → n ≡ level + 1 → level < MAX_OPEN → Plain n ts
    → Plain level (Token.begin_array ∷ ts)
unfolding Plain
began_array level n ts is few h = let e : n ≡ suc level = omega arith in
    (few, subst (λ k. Plain k ts) e h)

pub ended_object : (level : ℕ) (ts : List Token) → Plain (level - 1) ts
    → Plain level (Token.end_object ∷ ts)
unfolding Plain
ended_object zero ts h = h
ended_object (suc level) ts h = subst (λ n. Plain n ts) (omega arith) h

pub ended_array : (level : ℕ) (ts : List Token) → Plain (level - 1) ts
    → Plain level (Token.end_array ∷ ts)
unfolding Plain
ended_array zero ts h = h
ended_array (suc level) ts h = subst (λ n. Plain n ts) (omega arith) h

pub some_number : (r : Option Number) (s : List ℕ) → option_map number_view r ≡ number_of s
    → is_some r ≡ true → (n : Num) × (number_of s ≡ Some n)
some_number None s e some = absurd cc
some_number (Some n) s e some = (number_view n, sym e)
