-- What the loops of workers come to.
use Rattle.std.specs.Prelude.{◌≡◌, ℕ, List, [], ◌∷◌, Option, Some}
use Rattle.series_id.specs.Identity.{Identity}
use Rattle.back_answers.specs.declared.answer.Answer.{Answer}
use Rattle.gate_workers.specs.declared.service.Served.{Served}
use Rattle.gate_workers.specs.declared.flush.Turn.{Turn}
use Rattle.gate_workers.specs.Conversations.{Giving}
use Rattle.gate_workers.specs.Served.{IsServed}
use Rattle.gate_workers.specs.Turns.{IsTurn}
use Rattle.gate_workers.specs.Paced.{Reaching, IsTurnPaced}

-- one request was served, whatever its ends tell of their bytes
abbrev pub IsServedOnce : {K : Type 0} → Giving K → K → K → Served → Type 0
IsServedOnce gives k k' served =
    (input : Option (List ℕ)) × (old : Option (List ℕ)) × (new : Option (List ℕ))
    × IsServed gives input k k' old new served

-- the slots of a cache of identities
abbrev pub Slots : Type 0
Slots = Option (List (Option Identity))

-- what connections are served with: a keeper, a pace and a cache
abbrev pub Tools : Type 0 → Type 0 → Type 0
Tools K P = K × P × Slots

-- how serving a connection may change what it is served with, and its result
abbrev pub Serving : Type 0 → Type 1
Serving C = (K P : Type 0) → Giving K → Reaching P → C → Tools K P → Tools K P → Served → Type 0

-- so many connections were given and each was served once, one after another, each with what the
-- one before has left, and nothing else was done; the latest comes first
abbrev pub AreConnectionsServed : {S C K P : Type 0} → (S → Option C → S → Type 0) → Serving C
    → Giving K → Reaching P → List Served → S → S → Tools K P → Tools K P → Type 0
AreConnectionsServed given serves gives reaches [] s t w w' = (s ≡ t) × (w ≡ w')
AreConnectionsServed {S} {C} {K} {P} given serves gives reaches (x ∷ xs) s t w w' =
    (u : S) × (m : Tools K P) × AreConnectionsServed given serves gives reaches xs s u w m
    × (c : C) × given u (Some c) t × serves K P gives reaches c m w' x
    × IsServedOnce gives m.0 w'.0 x

-- so many orders were given, and for each a turn was made, one after another, with its asking of
-- the pace, and ended its order; nothing else was done, sent or asked; the latest comes first
abbrev pub AreMade : {S O K U P : Type 0} → (S → Option O → S → Type 0) → (O → Turn → Type 0)
    → Giving K → (U → List ℕ → Answer → U → Type 0) → Reaching P → ℕ → List Turn → S → S → K → K
    → U → U → P → P → Type 0
AreMade given ends gives sends reaches max [] s t k k' u u' p p' =
    (s ≡ t) × (k ≡ k') × (u ≡ u') × (p ≡ p')
AreMade {S} {O} {K} {U} {P} given ends gives sends reaches max (x ∷ xs) s t k k' u u' p p' =
    (r : S) × (m : K) × (v : U) × (q : P)
    × AreMade given ends gives sends reaches max xs s r k m u v p q
    × (o : O) × given r (Some o) t × IsTurn gives sends max m k' v u' x
    × IsTurnPaced reaches q p' x × ends o x
