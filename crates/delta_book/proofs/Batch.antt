-- The points of an open batch stand together, as its entry brought them.
use Rattle.std.proofs.Common.{◌≡◌, ◌≢◌, ℕ, ◌==◌, ◌⊎◌, Bool, true, false, not, cond, ◌&&◌, ◌||◌}
use Rattle.std.proofs.Common.{List, [], ◌∷◌, ◌++◌, map, filter, refl, ap, sym, ◌∙◌, subst, inl, inr}
use Rattle.std.proofs.Common.{◌<◌}
use Rattle.std.specs.List.{list_all}
use Rattle.std.proofs.lemmas.Bool.{and_from, ne_eqb, eqb-true, eq-eqb}
use Rattle.std.proofs.lemmas.List.{append_assoc, append-nil}
use Rattle.std.proofs.lemmas.List.Elements.{filter-append}
use Rattle.metric_events.specs.DataPoint.{DataPoint}
use Rattle.metric_events.specs.History.{History, Opened, ◌▸◌, IsNewBatch, opening}
use Rattle.metric_events.specs.Points.{points, admitted, at, landed, taken, is_of_other_batch}
use Rattle.metric_events.specs.Points.{is_home, is_among}
use Rattle.series_id.specs.Identity.{Identity}
use Rattle.metric_events.specs.Running.{open_batches, is_another}
use Rattle.metric_events.specs.Legal.{IsLegal, is_open}
use Rattle.metric_events.specs.declared.place.Place.TheVariants.{Home, InFlight, Acknowledged}
use Rattle.metric_events.specs.declared.place.Place.TheVariants.{Dropped}
use Rattle.metric_events.specs.declared.accepted.Accepted.{Accepted}
use Rattle.metric_events.specs.declared.batch.Batch.{Batch}
use Rattle.metric_events.specs.declared.event.Event.TheVariants.{Admit, Undo, Confirm, Take, Settle}
use Rattle.metric_events.specs.declared.event.Event.TheVariants.{Drop, GiveBack}
use Rattle.metric_events.proofs.Lists.{all_append, all_filter, all_map, all_weaker, any_filter}
use Rattle.metric_events.proofs.Lists.{any_before, filter_keeps}
use Rattle.metric_events.proofs.Invariants.{new_points, all_admitted}
use Rattle.metric_events.proofs.Fits.{taken_point}
use Rattle.series_cell.specs.Cells.{is_of_batch}
use Rattle.series_cell.proofs.Points.{MovesOnly, moves_landed}
use Rattle.series_cell.proofs.Standing.{map_three}

pub moves_taken : (f : ℕ) (series : List Identity) → MovesOnly (taken f series)
moves_taken f series = record {
  point = λ a. taken_point f series a;
  batch = λ a. elim (is_home a.place && is_among a.point.series series)
      as (λ v. (cond v (at (InFlight f) a) a).batch ≡ a.batch) [ true ↦ refl | false ↦ refl ];
  sender = λ a. elim (is_home a.place && is_among a.point.series series)
      as (λ v. (cond v (at (InFlight f) a) a).sender ≡ a.sender) [ true ↦ refl | false ↦ refl ];
}

-- an Admit of the history
abbrev pub AdmitIn : History → ℕ → Batch → Type 0
AdmitIn (Opened O) b body = ⊥
AdmitIn (E ▸ Admit c some) b body = ((c ≡ b) × (some ≡ body)) ⊎ AdmitIn E b body
AdmitIn (E ▸ e) b body = AdmitIn E b body

new_not_in : (E : History) (c b : ℕ) (body : Batch) → IsNewBatch c E → AdmitIn E b body → c ≢ b
new_not_in (Opened O) c b body n h = absurd h
new_not_in (E ▸ Admit d some) c b body n h =
    elim h [ inl p ↦ (λ e. n.0 (p.0 ∙ sym e)) | inr m ↦ new_not_in E c b body n.1 m ]
new_not_in (E ▸ e) c b body n h = new_not_in E c b body n h

-- a batch of the history is none of an earlier round
new_above : (E : History) (b : ℕ) → IsNewBatch b E → (opening E).batches < b
new_above (Opened O) b n = n
new_above (E ▸ Admit c some) b n = new_above E b n.1
new_above (E ▸ e) b n = new_above E b n

pub admitted_above : (E : History) (b : ℕ) (body : Batch) → IsLegal E → AdmitIn E b body
    → (opening E).batches < b
admitted_above (Opened O) b body l h = absurd h
admitted_above (E ▸ Admit c some) b body l h =
    elim h [
      | inl p ↦ subst (λ n. (opening E).batches < n) p.0 (new_above E c l.1.fresh)
      | inr k ↦ admitted_above E b body l.0 k
    ]
admitted_above (E ▸ e) b body l h = admitted_above E b body l.0 h

-- the batch's points, one after another, with no other of it before or after
pub record Whole (qs : List Accepted) (b : ℕ) (body : Batch) : Type 0 where
  pub before : List Accepted
  pub its : List Accepted
  pub after : List Accepted
  pub parts : qs ≡ before ++ (its ++ after)
  pub none_before : list_all (is_of_other_batch b) before ≡ true
  pub none_after : list_all (is_of_other_batch b) after ≡ true
  pub of_it : list_all (is_of_batch b) its ≡ true
  pub are : map (at Home) its ≡ map (admitted b body.sender) body.points

home_again : (g : Accepted → Accepted) → MovesOnly g → (qs : List Accepted)
    → map (at Home) (map g qs) ≡ map (at Home) qs
home_again g m [] = refl
home_again g m (a ∷ qs) = ap (λ (p : DataPoint).
    record { point = p; batch = (g a).batch; sender = (g a).sender; place = Home }
    ∷ map (at Home) (map g qs)) (m.point a)
    ∙ (ap (λ b. record { point = a.point; batch = b; sender = (g a).sender; place = Home }
    ∷ map (at Home) (map g qs)) (m.batch a)
    ∙ (ap (λ s. record {
      point = a.point;
      batch = a.batch;
      sender = s;
      place =
          Home;
    } ∷ map (at Home) (map g qs)) (m.sender a)
    ∙ ap (λ rs. at Home a ∷ rs) (home_again g m qs)))

whole_moved : (g : Accepted → Accepted) → MovesOnly g → (qs : List Accepted) (b : ℕ) (body : Batch)
    → Whole qs b body → Whole (map g qs) b body
whole_moved g m qs b body w = record {
  before = map g w.before;
  its = map g w.its;
  after = map g w.after;
  parts = ap (map g) w.parts ∙ map_three g w.before w.its w.after;
  none_before = all_map (is_of_other_batch b) (is_of_other_batch b) g
      (λ a h. ap (λ c. not (c == b)) (m.batch a) ∙ h) w.before w.none_before;
  none_after = all_map (is_of_other_batch b) (is_of_other_batch b) g
      (λ a h. ap (λ c. not (c == b)) (m.batch a) ∙ h) w.after w.none_after;
  of_it = all_map (is_of_batch b) (is_of_batch b) g (λ a h. ap (λ c. c == b) (m.batch a) ∙ h) w.its
      w.of_it;
  are = home_again g m w.its ∙ w.are;
}

other_of : (b c : ℕ) → (b == c) ≡ false → (a : Accepted) → is_of_batch b a ≡ true
    → is_of_other_batch c a ≡ true
other_of b c n a h = ap not (subst (λ k. (k == c) ≡ false) (sym (eqb-true a.batch b h)) n)

whole_undone : (c : ℕ) (qs : List Accepted) (b : ℕ) (body : Batch) → (b == c) ≡ false
    → Whole qs b body → Whole (filter (is_of_other_batch c) qs) b body
whole_undone c qs b body n w = record {
  before = filter (is_of_other_batch c) w.before;
  its = w.its;
  after = filter (is_of_other_batch c) w.after;
  parts =
      ap (filter (is_of_other_batch c)) w.parts
      ∙ (filter-append (is_of_other_batch c) w.before (w.its ++ w.after)
      ∙ ap (λ rs. filter (is_of_other_batch c) w.before ++ rs)
      (filter-append (is_of_other_batch c) w.its w.after
      ∙ ap (λ rs. rs ++ filter (is_of_other_batch c) w.after)
      (filter_keeps (is_of_other_batch c) w.its
      (all_weaker (is_of_batch b) (is_of_other_batch c) (other_of b c n) w.its
      w.of_it))));
  none_before = all_filter (is_of_other_batch b) (is_of_other_batch c) w.before w.none_before;
  none_after = all_filter (is_of_other_batch b) (is_of_other_batch c) w.after w.none_after;
  of_it = w.of_it;
  are = w.are;
}

home_admitted : (b : ℕ) (s : List ℕ) (ps : List DataPoint)
    → map (at Home) (map (admitted b s) ps) ≡ map (admitted b s) ps
home_admitted b s [] = refl
home_admitted b s (p ∷ ps) = ap (λ rs. admitted b s p ∷ rs) (home_admitted b s ps)

all_of_it : (b : ℕ) (s : List ℕ) (ps : List DataPoint)
    → list_all (is_of_batch b) (map (admitted b s) ps) ≡ true
all_of_it b s [] = refl
all_of_it b s (p ∷ ps) = and_from (b == b) (list_all (is_of_batch b) (map (admitted b s) ps))
    (eq-eqb b b refl) (all_of_it b s ps)

whole_new : (E : History) (b : ℕ) (body : Batch) → IsNewBatch b E
    → Whole (points E ++ map (admitted b body.sender) body.points) b body
whole_new E b body n = record {
  before = points E;
  its = map (admitted b body.sender) body.points;
  after = [];
  parts = ap (λ rs. points E ++ rs) (sym (append-nil (map (admitted b body.sender) body.points)));
  none_before = new_points b E n;
  none_after = refl;
  of_it = all_of_it b body.sender body.points;
  are = home_admitted b body.sender body.points;
}

whole_more : (qs : List Accepted) (b c : ℕ) (body some : Batch) → c ≢ b → Whole qs b body
    → Whole (qs ++ map (admitted c some.sender) some.points) b body
whole_more qs b c body some ne w = record {
  before = w.before;
  its = w.its;
  after = w.after ++ map (admitted c some.sender) some.points;
  parts = ap (λ rs. rs ++ map (admitted c some.sender) some.points) w.parts
      ∙ (append_assoc w.before (w.its ++ w.after) (map (admitted c some.sender) some.points)
      ∙ ap (λ rs. w.before ++ rs)
      (append_assoc w.its w.after (map (admitted c some.sender) some.points)));
  none_before = w.none_before;
  none_after = all_append (is_of_other_batch b) w.after (map (admitted c some.sender) some.points)
      w.none_after (all_admitted b c some.sender some.points ne);
  of_it = w.of_it;
  are = w.are;
}

-- a batch that is open still is not the one that was closed
closed_other : (b c : ℕ) (bs : List ℕ) → is_open b (filter (is_another c) bs) ≡ true
    → (b == c) ≡ false
closed_other b c [] h = absurd (let q : false ≡ true = h in cc)
closed_other b c (d ∷ bs) h = both (d == c) refl (closed_other b c bs)
  where
    both : (v : Bool) → (d == c) ≡ v
        → (is_open b (filter (is_another c) bs) ≡ true → (b == c) ≡ false) → (b == c) ≡ false
    both true e r = r (rw e at h)
    both false e r = first (d == b) refl (rw e at h)
      where
        first : (v : Bool) → (d == b) ≡ v
            → ((d == b) || is_open b (filter (is_another c) bs)) ≡ true → (b == c) ≡ false
        first true f k = subst (λ n. (n == c) ≡ false) (eqb-true d b f) e
        first false f k = r (rw f at k)

pub whole : (E : History) (b : ℕ) (body : Batch) → IsLegal E → AdmitIn E b body
    → is_open b (open_batches E) ≡ true → Whole (points E) b body
whole (Opened O) b body l h o = absurd h
whole (E ▸ Admit c some) b body l h o =
    elim h [
      | inl p ↦ subst (Whole (points E ++ map (admitted c some.sender) some.points) b) p.1
          (subst (λ k. Whole (points E ++ map (admitted c some.sender) some.points) k some) p.0
          (whole_new E c some l.1.fresh))
      | inr k ↦ (let ne = new_not_in E c b body l.1.fresh k in
          whole_more (points E) b c body some ne
          (whole E b body l.0 k
          (any_before (λ d. d == b) (open_batches E) c (ne_eqb c b ne) o)))
    ]
whole (E ▸ Undo c) b body l h o = whole_undone c (points E) b body
    (closed_other b c (open_batches E) o)
    (whole E b body l.0 h (any_filter (λ d. d == b) (is_another c) (open_batches E) o))
whole (E ▸ Confirm c) b body l h o =
    whole E b body l.0 h (any_filter (λ d. d == b) (is_another c) (open_batches E) o)
whole (E ▸ Take f series) b body l h o =
    whole_moved (taken f series) (moves_taken f series) (points E) b body (whole E b body l.0 h o)
whole (E ▸ Settle f) b body l h o =
    whole_moved (landed f Acknowledged) (moves_landed f Acknowledged) (points E) b body
    (whole E b body l.0 h o)
whole (E ▸ Drop f) b body l h o = whole_moved (landed f Dropped) (moves_landed f Dropped) (points E)
    b body (whole E b body l.0 h o)
whole (E ▸ GiveBack f) b body l h o =
    whole_moved (landed f Home) (moves_landed f Home) (points E) b body (whole E b body l.0 h o)
whole (E ▸ e) b body l h o = whole E b body l.0 h o
