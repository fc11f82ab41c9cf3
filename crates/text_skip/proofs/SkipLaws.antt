-- What a proof uses of the definitions of `specs/Skip.antt`: one law for each way out of `skip_one_token`, and how far a token goes.
-- Assumes nothing.
use Rattle.std.specs.Prelude.{Ok, Err, Some, None, Result, Option}
use mathlib.Core.Path.{◌≡◌, refl, sym, ap, subst, ◌∙◌}
use mathlib.Core.Bool.{Bool, true, false, cond}
use mathlib.Core.List.{List}
use Prim.Native.Nat.{ℕ, ◌+◌, ◌<◌, ◌≤◌}
use native.Mathlib.Omega.{arith}
use lib.ListN.{length, get_or, drop, length-drop}
use lib.Dec.{eqb, leb}
use borrow.Author.Tests.{ne_eqb, le-leb, lt-leb, leb-true, leb-false, eqb-true}
use Rattle.text.specs.Class.{class_of}
use Rattle.text.specs.Keyword.{starts_ident}
use Rattle.text.specs.Refusal.{is_high, high_at, MetHigh}
use Rattle.text.specs.Scan.{run_end}
use Rattle.text.specs.declared.Cursor.{Cursor}
use Rattle.text.specs.declared.Refusal.{Refusal}
use Rattle.text.specs.declared.Run.TheVariants.{Name}
use Rattle.text.proofs.Here.{by_test, inside, never}
use Rattle.text.proofs.HighLaws.{high_said}
use Rattle.text.proofs.KeywordLaws.{starts_in}
use Rattle.text.proofs.Laws.{in_name, run_more, run_from, run_within}
use Rattle.text_string.specs.Str.{is_quote, str_end}
use Rattle.text_string.proofs.StrLaws.{str_size}
use Rattle.text_past.specs.Past.{broke_off}
use Rattle.text_skip.specs.Skip.{past_whole, past_text, closed_token, token_here, token_at}
use Rattle.text_past.specs.declared.How.{How}

-- ---- a token

pub token_past : (s : List ℕ) (at : ℕ) → length s ≤ at → token_at s at ≡ past_whole at
unfolding token_at
token_past s at h = rw (le-leb (length s) at h) refl

-- no name begins with a quote
no_quote : (b : ℕ) → starts_ident b ≡ true → is_quote b ≡ false
unfolding is_quote starts_ident class_of
no_quote b m =
    by_test (eqb b 34)
    (λ t. absurd (never (ap starts_ident (eqb-true b 34 t)) m))
    (λ f. by_test (eqb b 39) (λ t. absurd (never (ap starts_ident (eqb-true b 39 t)) m)) (λ g. simp (f, g)))

-- nor is a quote 128 or more
high_no_quote : (b : ℕ) → is_high b ≡ true → is_quote b ≡ false
unfolding is_quote
high_no_quote b h =
    let k = (high_said b h).0 in
    simp (ne_eqb b 34 (λ e. omega arith), ne_eqb b 39 (λ e. omega arith))

-- Each law takes what the calls on the way answered, in their order: b what stands here, n whether a name begins so, o whether it is 128 or more, t whether it
-- is a quote, k where the string closes.
module _ (s : List ℕ) (at : ℕ) (h : at < length s) {b : ℕ} (be : b ≡ get_or s at 256) where
  module _ {t : Bool} (te : t ≡ is_quote b) (y : t ≡ true) {k : Option ℕ} (ke : k ≡ str_end (get_or s at 0) false (drop (at + 1) s) (at + 1)) where
    token_string : token_at s at ≡ closed_token s k
    unfolding token_at token_here
    token_string =
        let q : is_quote (get_or s at 256) ≡ true = cc in
        rw (lt-leb (length s) at h) (rw q (ap (closed_token s) (sym (ke ∙ ap (λ c. str_end c false (drop (at + 1) s) (at + 1)) (inside s at 0 256 h)))))

    pub token_closed : (e : ℕ) → k ≡ Some e → token_at s at ≡ past_whole e
    unfolding closed_token
    token_closed e m = token_string ∙ ap (closed_token s) m

    pub token_cut : k ≡ None → token_at s at ≡ past_text (length s)
    unfolding closed_token
    token_cut m = token_string ∙ ap (closed_token s) m

  module _ {n : Bool} (ne : n ≡ starts_ident b) where
    pub token_name : n ≡ true → {e : ℕ} → e ≡ run_end Name s at → token_at s at ≡ past_whole e
    unfolding token_at token_here
    token_name m ee =
        let r : starts_ident (get_or s at 256) ≡ true = cc in
        rw (lt-leb (length s) at h) (rw (no_quote (get_or s at 256) r) (rw r (rw (← ee))))

    module _ (m : n ≡ false) {o : Bool} (oe : o ≡ is_high b) where
      token_one : is_quote (get_or s at 256) ≡ false → token_at s at ≡ cond (is_high (get_or s at 256)) (Err (high_at at)) (past_whole (at + 1))
      unfolding token_at token_here
      token_one q =
          let r : starts_ident (get_or s at 256) ≡ false = cc in
          rw (lt-leb (length s) at h) (rw q (rw r))

      pub token_high : o ≡ true → {r : Refusal} → r ≡ high_at at → token_at s at ≡ Err r
      token_high y e =
          let q : is_high (get_or s at 256) ≡ true = cc in
          token_one (high_no_quote (get_or s at 256) q) ∙ rw q (ap Err (sym e))

      pub token_byte : o ≡ false → {t : Bool} → t ≡ is_quote b → t ≡ false → token_at s at ≡ past_whole (at + 1)
      token_byte z te f =
          let q : is_high (get_or s at 256) ≡ false = cc in
          let w : is_quote (get_or s at 256) ≡ false = cc in
          token_one w ∙ rw q refl

-- ---- how far a token goes

-- within the text it takes a byte at least and ends within it, and one that the text's end ended takes all the rest; what is refused is a byte of 128 or more,
-- which stands here
abbrev pub TokenTells : List ℕ → ℕ → Result (Cursor × How) Refusal → Type 0
TokenTells s at (Ok (c, h)) = at < length s → (at < c.at) × (c.at ≤ length s) × (broke_off h ≡ true → c.at ≡ length s)
TokenTells s at (Err r) = MetHigh s r

whole_tells : (s : List ℕ) (at e : ℕ) → (at < length s → (at < e) × (e ≤ length s)) → TokenTells s at (past_whole e)
unfolding broke_off
whole_tells s at e far l = let f = far l in (f.0, f.1, λ b. absurd (never refl b))

pub token_tells : (s : List ℕ) (at : ℕ) → TokenTells s at (token_at s at)
token_tells s at =
    by_test (leb (length s) at)
    (λ t. rw (token_past s at (leb-true (length s) at t)) (whole_tells s at at (λ l. omega (arith, leb-true (length s) at t))))
    (λ t. within (leb-false (length s) at t))
  where
    by_close : at < length s → (k : Option ℕ) → str_end (get_or s at 0) false (drop (at + 1) s) (at + 1) ≡ k → is_quote (get_or s at 256) ≡ true
        → TokenTells s at (token_at s at)
    by_close h (Some e) k q =
        rw (token_closed s at h refl refl q (sym k) e refl)
        (whole_tells s at e
        (λ l. omega (arith, str_size (get_or s at 0) false (drop (at + 1) s) (at + 1) e k, length-drop (at + 1) s)))
    by_close h None k q = rw (token_cut s at h refl refl q (sym k) refl) (λ l. (l, omega arith, λ b. refl))

    within : at < length s → TokenTells s at (token_at s at)
    within h =
        by_test (is_quote (get_or s at 256))
        (λ q. by_close h (str_end (get_or s at 0) false (drop (at + 1) s) (at + 1)) refl q)
        (λ q. by_test (starts_ident (get_or s at 256))
        (λ n. let e = in_name (get_or s at 256) (starts_in (get_or s at 256) n) in
        rw (token_name s at h refl refl n refl)
        (whole_tells s at (run_end Name s at)
        (λ l. omega (arith, run_more Name s at h refl (sym e) refl, run_from Name s (at + 1), run_within Name s at (omega arith)))))
        (λ n. by_test (is_high (get_or s at 256))
        (λ o. rw (token_high s at h refl refl n refl o refl) (refl, o))
        (λ o. rw (token_byte s at h refl refl n refl o refl q) (whole_tells s at (at + 1) (λ l. omega arith)))))

pub token_far : (s : List ℕ) (at : ℕ) → at < length s → (c : Cursor) (h : How) → token_at s at ≡ Ok (c, h) → (at < c.at) × (c.at ≤ length s)
token_far s at l c h e = let f = subst (TokenTells s at) e (token_tells s at) l in (f.0, f.1)

-- one that the text's end ended is there
pub token_end : (s : List ℕ) (at : ℕ) → at < length s → (c : Cursor) (h : How) → token_at s at ≡ Ok (c, h) → broke_off h ≡ true → c.at ≡ length s
token_end s at l c h e b = (subst (TokenTells s at) e (token_tells s at) l).2 b

pub token_refused : (s : List ℕ) (at : ℕ) (r : Refusal) → token_at s at ≡ Err r → MetHigh s r
token_refused s at r e = subst (TokenTells s at) e (token_tells s at)
