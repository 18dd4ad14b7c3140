-- Levels and the end keep what every decider keeps.
use Rattle.std.specs.Prelude.{◌≡◌, ℕ, ◌+◌, ◌<◌, Bool, true, false, cond, List, [], ◌∷◌, ◌++◌, map, length, Ok, Err, Result, ◌==◌, ◌≢◌, nat_eq, refl}
use Rattle.std.proofs.Common.{sym, ◌∙◌, inl, inr, eqb-true, eq-eqb, arith}
use Rattle.std.proofs.Math.Path.{ap}
use Rattle.std.proofs.Math.Logic.{⊎_elim}
use Rattle.std.proofs.lemmas.List.{append_assoc, length-append}
use Rattle.std.proofs.lemmas.Bool.{cases_Bool, both_ways, cond-true, cond-false}
use Rattle.refusals.specs.declared.Refusal.{Refusal}
use Rattle.refusals.specs.declared.Reason.TheVariants.{NotTaken, BadSetting}
use Rattle.refusals.specs.Numbers.{refused, plain}
use Rattle.passes.specs.Lawful.{Lawful}
use Rattle.filters.specs.declared.Hashing.{Hashing}
use Rattle.filters.specs.declared.Settings.{Settings}
use Rattle.filters.specs.Kind.{Kind, Rules, Alone, allowed}
use Rattle.filters.specs.Judged.{fitting}
use Rattle.fields.specs.Fields.{field}
use Rattle.fields.specs.Reading.{then}
use Rattle.levels.specs.declared.Side.TheVariants.{For, Against}
use Rattle.levels.specs.Rows.{Row, In, Distinct, LawfulRows}
use Rattle.levels.specs.Deciders.{Answer, Decides, Over, next, fill, turn, remark, begun, placed, at_size, deeper, tag_of, table_of, table_at, level_decides, end_decides, turned, Saves, level_saves, end_saves}
use Rattle.levels.specs.Laws.{Right, first_no, Restores, Fits, AllFit, Keeps, SavesTables}
use Rattle.fields.proofs.Readback.{length_field}
use Rattle.levels.specs.Fields.{table_read}
use Rattle.levels.specs.Bodies.{end_as_fields, end_from_fields, level_from_fields}

never : {A E : Type 0} (e : E) (a : A) → ◌≡◌ {A = Result A E} (Err e) (Ok a) → ⊥
never e a h = let z : ◌≡◌ {A = ℕ} 0 1 = cc in omega arith

-- Ok after `then`: what came before it
then_ok : {A B : Type 0} (t : Result A Refusal) (f : A → Result B Refusal) (b : B) → then t f ≡ Ok b → (a : A) × (t ≡ Ok a) × (f a ≡ Ok b)
then_ok (Ok a) f b e = (a, refl, e)
then_ok (Err x) f b e = absurd (never x b e)

in_map : (f : Row → Row) (r : Row) (rs : List Row) → In r rs → In (f r) (map f rs)
in_map f r [] m = absurd m
in_map f r (q ∷ rs) m = ⊎_elim (λ (p : r ≡ q). inl (ap f p)) (λ n. inr (in_map f r rs n)) m

from_map : (f : Row → Row) (q : Row) (rs : List Row) → In q (map f rs) → (r : Row) × In r rs × (q ≡ f r)
from_map f q [] m = absurd m
from_map f q (r ∷ rs) m = ⊎_elim (λ (p : q ≡ f r). (r, inl refl, p)) (λ n. let t = from_map f q rs n in (t.0, inr t.1, t.2)) m

module _ {V : Type 0} (k : Kind V) (rules : Rules k) where
  -- what a fill that came to its end gives
  pub record Filled (v w : V) (rs : List Row) : Type 0 where
    pub sound : k.sound w ≡ true
    pub ready : k.ready w ≡ true
    pub settings : k.settings w ≡ k.settings v
    pub kept : (y : List ℕ) → Lawful y → k.says v y ≡ true → k.says w y ≡ true
    pub each : (r : Row) → In r rs → r.mark ≡ 1 → k.says w r.form ≡ true
    pub alone : Alone k → (y : List ℕ) → Lawful y → ((r : Row) → In r rs → r.mark ≡ 1 → r.form ≢ y) → k.says w y ≡ true → k.says v y ≡ true

  skipped : (v w : V) (r : Row) (rs : List Row) → (r.mark == 1) ≡ false → Filled v w rs → Filled v w (r ∷ rs)
  skipped v w r rs off f = record {
    sound = f.sound;
    ready = f.ready;
    settings = f.settings;
    kept = f.kept;
    each = λ q m z. ⊎_elim (λ (p : q ≡ r). absurd (both_ways _ off (eq-eqb r.mark 1 (ap (λ (t : Row). t.mark) (sym p) ∙ z)))) (λ n. f.each q n z) m;
    alone = λ a y l n h. f.alone a y l (λ q m. n q (inr m)) h;
  }

  put_in : (v w : V) (r : Row) (rs : List Row) → k.sound v ≡ true → k.ready v ≡ true → Lawful r.form → r.mark ≡ 1 → k.takes v r.form ≡ true → Filled (k.put v r.form) w rs → Filled v w (r ∷ rs)
  put_in v w r rs g d l one t f = record {
    sound = f.sound;
    ready = f.ready;
    settings = f.settings ∙ rules.kept v r.form g d l t;
    kept = λ y ly h. f.kept y ly (rules.still v r.form y g l ly t h);
    each = λ q m z. ⊎_elim (λ (p : q ≡ r). rw p (f.kept r.form l (rules.has v r.form g l t))) (λ n. f.each q n z) m;
    alone = λ a y ly n h. a.alone v r.form y g l ly t (f.alone a y ly (λ q m. n q (inr m)) h) (n r (inl refl) one);
  }

  pub filled : (v w : V) (i : ℕ) (rs : List Row) → k.sound v ≡ true → k.ready v ≡ true → LawfulRows rs → fill k v i rs ≡ Ok w → Filled v w rs
  unfolding fill
  filled v w i [] g d l e =
      let p : v ≡ w = cc in
      record { sound = rw p at g; ready = rw p at d; settings = ap k.settings (sym p); kept = λ y ly h. rw p at h; each = λ r m. absurd m; alone = λ a y ly n h. rw (sym p) at h }
  filled v w i (r ∷ rs) g d l e =
      let here = l r (inl refl) in
      let others : LawfulRows rs = λ q m. l q (inr m) in
      ⊎_elim
      (λ (yes1 : nat_eq r.mark 1 ≡ true).
      ⊎_elim
      (λ (t : k.takes v r.form ≡ true).
      put_in v w r rs g d here (eqb-true r.mark 1 yes1) t
      (filled (k.put v r.form) w (i + 1) rs (rules.sound_put v r.form g here t) (rules.ready_put v r.form g here t d) others (rw (yes1, t) at e)))
      (λ (t : k.takes v r.form ≡ false). absurd (never i w (rw (yes1, t) at e)))
      (cases_Bool (k.takes v r.form)))
      (λ (no1 : nat_eq r.mark 1 ≡ false). skipped v w r rs no1 (filled v w (i + 1) rs g d others (rw no1 at e)))
      (cases_Bool (r.mark == 1))

  placed_ok : (level : ℕ) (t : Result V ℕ) (w : V) → placed k level t ≡ Ok w → t ≡ Ok w
  placed_ok level (Ok a) w e = let p : a ≡ w = cc in ap Ok p
  placed_ok level (Err i) w e = absurd (never (refused NotTaken level i) w e)

  -- a filter that was begun, from nothing
  pub begun_filled : (s : Settings) (rs : List Row) (w : V) → LawfulRows rs → begun k s rs ≡ Ok w → (allowed k s ≡ true) × Filled (k.cleared s) w rs
  begun_filled s rs w l e =
      ⊎_elim
      (λ (a : allowed k s ≡ true).
      (a, filled (k.cleared s) w 0 rs (rules.sound_cleared s a) (rules.ready_cleared s a) l (placed_ok s.hashing.level _ w (sym (cond-true (allowed k s) _ _ a) ∙ e))))
      (λ (a : allowed k s ≡ false). absurd (never (plain BadSetting) w (sym (cond-false (allowed k s) _ _ a) ∙ e)))
      (cases_Bool (allowed k s))

  -- what a filter that was begun saves is read back, and says the same
  pub record Reread (h : Hashing) (w : V) : Type 0 where
    pub table : (tag : ℕ) (front rest : List ℕ) → table_at k tag h.hashes (front ++ (field tag (k.saved w) ++ rest)) (length front) ≡ Ok (k.saved w)
    pub says : (x : List ℕ) → Lawful x → k.says (k.loaded h (k.saved w)) x ≡ k.says w x

  pub reread : (h : Hashing) (size : ℕ) (rs : List Row) (w : V) → LawfulRows rs → begun k (at_size h size) rs ≡ Ok w → Reread h w
  reread h size rs w l e =
      let b = begun_filled (at_size h size) rs w l e in
      let f = b.1 in
      let set = f.settings ∙ rules.set (at_size h size) b.0 in
      let same : (k.settings w).hashing ≡ h = ap (λ (s : Settings). s.hashing) set in
      let fits = rules.fits w f.sound f.ready in
      let most = rules.within size h.hashes b.0 in
      let sized : (k.settings w).size ≡ size = ap (λ (s : Settings). s.size) set in
      let short : length (k.saved w) < 65536 = omega (arith, fits.0, most.0) in
      record {
        table = λ tag front rest. table_read front (k.saved w) rest tag short k h.hashes (rw same at (rules.accepted w f.sound f.ready));
        says = λ x lx. rw same at (rules.restored w x f.sound f.ready lx);
      }

  -- what a filter that was begun saves fits its table
  pub begun_fits : (h : Hashing) (size : ℕ) (rs : List Row) (w : V) → LawfulRows rs → begun k (at_size h size) rs ≡ Ok w → Fits (table_of k) h.hashes size (k.saved w)
  begun_fits h size rs w l e =
      let b = begun_filled (at_size h size) rs w l e in
      let f = b.1 in
      let set = f.settings ∙ rules.set (at_size h size) b.0 in
      let same : (k.settings w).hashing ≡ h = ap (λ (s : Settings). s.hashing) set in
      let sized : (k.settings w).size ≡ size = ap (λ (s : Settings). s.size) set in
      let fits = rules.fits w f.sound f.ready in
      let good = rw same at (rules.accepted w f.sound f.ready) in
      record {
        measured = (fitting k h.hashes (k.saved w) good).measured;
        accepted = good;
        in_bytes = fits.1;
        short = omega (arith, fits.0);
        small = (rules.within size h.hashes b.0).0;
      }

  turn_distinct : (v : V) (rs : List Row) → Distinct rs → Distinct (map (turn k v) rs)
  turn_distinct v rs d q r m n same =
      let a = from_map (turn k v) q rs m in
      let b = from_map (turn k v) r rs n in
      let f : a.0.form ≡ b.0.form = sym (ap (λ (x : Row). x.form) a.2) ∙ same ∙ ap (λ (x : Row). x.form) b.2 in
      let h = d a.0 b.0 a.1 b.1 f in
      let u : remark k v a.0 ≡ remark k v b.0 = rw (h, f) in
      ap (λ (x : Row). x.mark) a.2 ∙ u ∙ sym (ap (λ (x : Row). x.mark) b.2)

  turn_lawful : (v : V) (rs : List Row) → LawfulRows rs → LawfulRows (map (turn k v) rs)
  turn_lawful v rs l q m = let a = from_map (turn k v) q rs m in let e : q.form ≡ a.0.form = ap (λ (x : Row). x.form) a.2 in rw e (l a.0 a.1)

  source_of : (says : Bool) (a : Answer) (n : ℕ) → a.1 ≡ n → (cond says (turned a) (Against, 1)).1 ≡ cond says (next n) 1
  source_of true a n e = ap next e
  source_of false a n e = refl

  first_no_more : (says : Bool) (bs : List Bool) → first_no (says ∷ bs) ≡ cond says (next (first_no bs)) 1
  first_no_more true bs = refl
  first_no_more false bs = refl

  end_source : (says : Bool) → ◌≡◌ {A = ℕ} (cond {A = Answer} says (For, 2) (Against, 1)).1 (first_no (says ∷ []))
  end_source true = refl
  end_source false = refl

  end_right : Alone k → (h : Hashing) (rs : List Row) (w : V) → Distinct rs → LawfulRows rs → begun k (at_size h 1536) rs ≡ Ok w → (r : Row) → In r rs → Right (end_decides k) w r
  end_right alone h rs w d l e r m =
      let b = begun_filled (at_size h 1536) rs w l e in
      record {
        for = λ z. rw (b.1.each r m z);
        against = λ z.
            let off : k.says w r.form ≡ false =
            ⊎_elim
            (λ (y : k.says w r.form ≡ true).
            absurd (both_ways _ (rules.none_cleared (at_size h 1536) r.form b.0 (l r m))
            (b.1.alone alone r.form (l r m) (λ o n one same. let marks = d o r n m same in omega arith) y)))
            (λ y. y)
            (cases_Bool (k.says w r.form))
            in
            rw off;
      }

  end_restores : (h : Hashing) (rs : List Row) (w : V) → LawfulRows rs → begun k (at_size h 1536) rs ≡ Ok w → (front back : List ℕ) → Restores (end_decides k) h w front back
  end_restores h rs w l e front back =
      let r = reread h 1536 rs w l e in
      let tag = tag_of h.level in
      let n = length_field tag (k.saved w) in
      record {
        state = k.loaded h (k.saved w);
        loaded =
            ap (λ (t : Result (List ℕ) Refusal). then t (λ body. Ok (k.loaded h body, length front + 3 + length body))) (r.table tag front back)
            ∙ ap (λ (p : ℕ). Ok (k.loaded h (k.saved w), p)) (let q : length front + 3 + length (k.saved w) ≡ length front + length (field tag (k.saved w)) = omega arith in q);
        alike = λ x lx. rw (r.says x lx);
      }

  end_build : (h : Hashing) (sizes : List ℕ) (rs : List Row) (w : V) → (end_decides k).build h sizes rs ≡ Ok w → begun k (at_size h 1536) rs ≡ Ok w
  end_build h [] rs w e = e
  end_build h (n ∷ ns) rs w e = absurd (never (plain BadSetting) w e)

  end_fits : (h : Hashing) (sizes : List ℕ) (rs : List Row) (w : V) → LawfulRows rs → (end_decides k).build h sizes rs ≡ Ok w → AllFit (end_saves k).tables h.hashes (sizes ++ 1536 ∷ []) ((end_saves k).bodies w)
  end_fits h [] rs w l e = (begun_fits h 1536 rs w l e, tt)
  end_fits h (n ∷ ns) rs w l e = absurd (never (plain BadSetting) w e)

  pub end_keeps : Alone k → Keeps (end_decides k)
  end_keeps alone = record {
    none = λ x l. rw (rules.none_blank x l);
    source = λ s x. end_source (k.says s x);
    right = λ h sizes rs s d l e r m. end_right alone h rs s d l (end_build h sizes rs s e) r m;
    restored = λ h sizes rs s l e front back. end_restores h rs s l (end_build h sizes rs s e) front back;
  }

  pub end_saves_tables : SavesTables (end_decides k) (end_saves k)
  end_saves_tables = record { as_fields = end_as_fields k; from_fields = end_from_fields k; fitting = end_fits }

  -- what a level was built from
  record Built {S : Type 0} (d : Decides S) (h : Hashing) (sizes : List ℕ) (rs : List Row) (s : Over V S) : Type 0 where
    size : ℕ
    rest : List ℕ
    split : sizes ≡ size ∷ rest
    filter : begun k (at_size h size) rs ≡ Ok s.filter
    below : d.build (deeper h) rest (map (turn k s.filter) rs) ≡ Ok s.below

  level_build : {S : Type 0} (d : Decides S) (h : Hashing) (sizes : List ℕ) (rs : List Row) (s : Over V S) → (level_decides k d).build h sizes rs ≡ Ok s → Built d h sizes rs s
  level_build d h [] rs s e = absurd (never (plain BadSetting) s e)
  level_build {S} d h (n ∷ ns) rs s e =
      let t = then_ok (begun k (at_size h n) rs) _ s e in
      let w = t.0 in
      let u = then_ok (d.build (deeper h) ns (map (turn k w) rs)) _ s t.2 in
      let q : ◌≡◌ {A = Over V S} (record { filter = w; below = u.0 }) s = let z = u.2 in cc in
      rw (sym q) (record { size = n; rest = ns; split = refl; filter = t.1; below = u.1 })

  level_right : {S : Type 0} (d : Decides S) → Keeps d → (h : Hashing) (sizes : List ℕ) (rs : List Row) (s : Over V S) → Distinct rs → LawfulRows rs → Built d h sizes rs s → (r : Row) → In r rs → Right (level_decides k d) s r
  level_right d keeps h sizes rs s dis l b r m =
      let w = s.filter in
      let f = begun_filled (at_size h b.size) rs w l b.filter in
      let sub = keeps.right (deeper h) b.rest (map (turn k w) rs) s.below (turn_distinct w rs dis) (turn_lawful w rs l) b.below (turn k w r) (in_map (turn k w) r rs m) in
      record {
        for = λ z.
            let one : nat_eq r.mark 1 ≡ true = eq-eqb r.mark 1 z in
            let h2 : remark k w r ≡ 2 = rw one in
            rw (f.1.each r m z, sub.against h2);
        against = λ z.
            let not1 : nat_eq r.mark 1 ≡ false = rw z in
            let two : nat_eq r.mark 2 ≡ true = eq-eqb r.mark 2 z in
            ⊎_elim
            (λ (y : k.says w r.form ≡ true). let u : remark k w r ≡ 1 = rw (not1, two, y) in rw (y, sub.for u))
            (λ (y : k.says w r.form ≡ false). rw y)
            (cases_Bool (k.says w r.form));
      }

  level_restores : {S : Type 0} (d : Decides S) → Keeps d → (h : Hashing) (sizes : List ℕ) (rs : List Row) (s : Over V S) → LawfulRows rs → Built d h sizes rs s → (front back : List ℕ) → Restores (level_decides k d) h s front back
  level_restores {S} d keeps h sizes rs s l b front back =
      let w = s.filter in
      let body = k.saved w in
      let tag = tag_of h.level in
      let more = d.saved (next h.level) s.below in
      let mine = field tag body in
      let r = reread h b.size rs w l b.filter in
      let low = keeps.restored (deeper h) b.rest (map (turn k w) rs) s.below (turn_lawful w rs l) b.below (front ++ mine) back in
      let input = front ++ ((mine ++ more) ++ back) in
      let one : input ≡ front ++ (mine ++ (more ++ back)) = ap (λ (t : List ℕ). front ++ t) (append_assoc mine more back) in
      let two : (front ++ mine) ++ (more ++ back) ≡ input = append_assoc front mine (more ++ back) ∙ sym one in
      let size : length (front ++ mine) ≡ length front + 3 + length body = length-append front mine ∙ (let n = length_field tag body in let q : length front + length mine ≡ length front + 3 + length body = omega arith in q) in
      let found : d.loads (deeper h) input (length front + 3 + length body) ≡ Ok (low.state, length (front ++ mine) + length more) =
      ap (d.loads (deeper h) input) (sym size) ∙ ap (λ (t : List ℕ). d.loads (deeper h) t (length (front ++ mine))) (sym two) ∙ low.loaded
      in
      let wholly : length (front ++ mine) + length more ≡ length front + length (mine ++ more) =
      let p = length-append front mine in let q = length-append mine more in omega arith
      in
      let go : List ℕ → Result (Over V S × ℕ) Refusal = λ t. then (d.loads (deeper h) input (length front + 3 + length t)) (λ p. Ok (record { filter = k.loaded h t; below = p.0 }, p.1)) in
      record {
        state = record { filter = k.loaded h body; below = low.state };
        loaded =
            ap (λ (t : List ℕ). then (table_at k tag h.hashes t (length front)) go) one
            ∙ ap (λ (t : Result (List ℕ) Refusal). then t go) (r.table tag front (more ++ back))
            ∙ ap (λ (t : Result (S × ℕ) Refusal). then t (λ p. Ok (record { filter = k.loaded h body; below = p.0 }, p.1))) found
            ∙ ap (λ (p : ℕ). Ok (record { filter = k.loaded h body; below = low.state }, p)) wholly;
        alike = λ x lx. rw (r.says x lx, low.alike x lx);
      }

  level_fits : {S : Type 0} (d : Decides S) (low : Saves S) → SavesTables d low → (h : Hashing) (sizes : List ℕ) (rs : List Row) (s : Over V S) → LawfulRows rs → Built d h sizes rs s → AllFit (level_saves k low).tables h.hashes (sizes ++ 1536 ∷ []) ((level_saves k low).bodies s)
  level_fits d low tabled h sizes rs s l b =
      let w = s.filter in
      let more = tabled.fitting (deeper h) b.rest (map (turn k w) rs) s.below (turn_lawful w rs l) b.below in
      rw b.split (begun_fits h b.size rs w l b.filter, more)

  pub level_keeps : {S : Type 0} (d : Decides S) → Keeps d → Keeps (level_decides k d)
  level_keeps {S} d keeps = record {
    none = λ x l. rw (rules.none_blank x l);
    source = λ s x. source_of (k.says s.filter x) (d.decides s.below x) (first_no (d.answers s.below x)) (keeps.source s.below x) ∙ sym (first_no_more (k.says s.filter x) (d.answers s.below x));
    right = λ h sizes rs s dis l e r m. level_right d keeps h sizes rs s dis l (level_build d h sizes rs s e) r m;
    restored = λ h sizes rs s l e front back. level_restores d keeps h sizes rs s l (level_build d h sizes rs s e) front back;
  }

  pub level_saves_tables : {S : Type 0} (d : Decides S) (low : Saves S) → SavesTables d low → SavesTables (level_decides k d) (level_saves k low)
  level_saves_tables d low tabled = record {
    as_fields = λ level s. ap (λ (t : List ℕ). field (tag_of level) (k.saved s.filter) ++ t) (tabled.as_fields (next level) s.below);
    from_fields = λ h input at. level_from_fields k d low h input at (λ p. tabled.from_fields (deeper h) input p);
    fitting = λ h sizes rs s l e. level_fits d low tabled h sizes rs s l (level_build d h sizes rs s e);
  }
