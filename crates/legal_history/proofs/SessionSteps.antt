-- What one entry more does to what is kept of one session.
use Rattle.std.proofs.Common.{◌≡◌, ℕ, Bool, true, false, ◌||◌, eqb, cond, max, List, [], ◌∷◌, ◌++◌, length, Option, Some, None, unwrap_or, is_some, refl, sym, ap, ◌∙◌, subst, arith}
use Rattle.std.specs.Option.{option_and_then}
use Rattle.std.proofs.lemmas.Bool.{eq-eqb}
use Rattle.ss_base.specs.declared.ids.ContainerId.{ContainerId}
use Rattle.ss_base.specs.declared.ids.ManifestId.{ManifestId}
use Rattle.ss_base.specs.declared.name.Name.{Name}
use Rattle.journal_entry.specs.declared.entry.Entry.{Entry}
use Rattle.journal_entry.specs.declared.entry.Point.{Point}
use Rattle.journal_entry.specs.declared.entry.Point.TheVariants.{Begin, Choose, Commit, Finish, Abort, Delete}
use Rattle.history.specs.Sessions.{is_number, session_begun, begins, chooses, commits, finishes, aborts, closes, deletes, settles, newest, champions_chosen, pending, is_pending}
use Rattle.history.specs.OwnEnd.{greatest_by, end_among, end_used, own_end}
use Rattle.history_laws.specs.EntryNumbers.{last_champions, CommitThese}
use Rattle.history_laws.proofs.OtherLaws.{IsOther, pending_kept, ends_same}
use Rattle.history_laws.proofs.NumberLaws.{numbers_more, numbers_same, commit_these_kept}
use Rattle.history_laws.proofs.SessionLaws.{has_same, has_now}
use Rattle.history_laws.proofs.StandingLaws.{made}
use Rattle.legal_history.specs.declared.stage.Stage.TheVariants.{Unfinished, Retained}
use Rattle.legal_history.specs.Rows.{Row, no_row, begun, chosen, committed, finished, aborted, deleted}
use Rattle.legal_history.specs.Agrees.{IsSession, was_closed, was_finished, was_deleted}

-- ---- another session

-- the session that an entry has to do with
abbrev pub concerned : Point → Option ℕ
concerned (Begin name session) = session
concerned (Choose session hooks champions) = Some session
concerned (Commit manifest content text chunks bytes fresh fresh_bytes uses) = Some manifest.session
concerned (Finish session containers) = Some session
concerned (Abort session containers texts) = Some session
concerned (Delete name session) = session
concerned _ = None

pub others : (s : ℕ) (point : Point) → is_number s (concerned point) ≡ false → IsOther s point
unfolding begins session_begun chooses commits finishes aborts closes deletes settles
others s (Begin name session) e = record { begun = e; chosen = refl; committed = refl; aborted = refl; finished = refl; settled = refl; closed = refl; deleted = refl }
others s (Choose t hooks champions) e = record { begun = refl; chosen = e; committed = refl; aborted = refl; finished = refl; settled = ap (λ b. b || (false || false)) e; closed = refl; deleted = refl }
others s (Commit id content text chunks bytes fresh fresh_bytes uses) e = record { begun = refl; chosen = refl; committed = e; aborted = refl; finished = refl; settled = ap (λ b. false || (b || false)) e; closed = refl; deleted = refl }
others s (Finish t containers) e = record { begun = refl; chosen = refl; committed = refl; aborted = refl; finished = e; settled = refl; closed = ap (λ b. b || false) e; deleted = refl }
others s (Abort t containers texts) e = record { begun = refl; chosen = refl; committed = refl; aborted = e; finished = refl; settled = ap (λ b. false || (false || b)) e; closed = ap (λ b. false || b) e; deleted = refl }
others s (Delete name session) e = record { begun = refl; chosen = refl; committed = refl; aborted = refl; finished = refl; settled = refl; closed = refl; deleted = e }
others s _ e = record { begun = refl; chosen = refl; committed = refl; aborted = refl; finished = refl; settled = refl; closed = refl; deleted = refl }

newest_same : (does : Point → Bool) (entry : Entry) (past : List Entry) → does entry.point ≡ false → newest does (entry ∷ past) ≡ newest does past
unfolding newest
newest_same does entry past other = rw other refl

newest_now : (does : Point → Bool) (entry : Entry) (past : List Entry) → does entry.point ≡ true → newest does (entry ∷ past) ≡ Some entry
unfolding newest
newest_now does entry past here = rw here refl

champions_same : (s : ℕ) (entry : Entry) (past : List Entry) → chooses s entry.point ≡ false → last_champions s (entry ∷ past) ≡ last_champions s past
unfolding last_champions
champions_same s entry past other = ap (λ (o : Option Entry). unwrap_or (option_and_then (λ (e : Entry). champions_chosen e.point) o) []) (newest_same (chooses s) entry past other)

known_kept : (numbers : List ℕ) (s : ℕ) (entry : Entry) (past : List Entry) → chooses s entry.point ≡ false → CommitThese numbers (last_champions s past) past → CommitThese numbers (last_champions s (entry ∷ past)) (entry ∷ past)
known_kept numbers s entry past other these =
    subst (λ (ids : List ManifestId). CommitThese numbers ids (entry ∷ past)) (sym (champions_same s entry past other)) (commit_these_kept numbers (last_champions s past) entry past these)

pub other_kept : (row : Row) (s : ℕ) (entry : Entry) (past : List Entry) → IsOther s entry.point → IsSession row s past → IsSession row s (entry ∷ past)
unfolding is_pending
other_kept row s entry past other is = record {
  begun = is.begun ∙ sym (numbers_same (begins s) entry past other.begun);
  closed = is.closed ∙ sym (has_same (closes s) entry past other.closed);
  finished = is.finished ∙ sym (has_same (finishes s) entry past other.finished);
  deleted = is.deleted ∙ sym (has_same (deletes s) entry past other.deleted);
  chosen = is.chosen ∙ sym (numbers_same (chooses s) entry past other.chosen);
  committed = is.committed ∙ sym (numbers_same (commits s) entry past other.committed);
  settled = is.settled ∙ sym (ap is_some (pending_kept s entry past other));
  known = known_kept row.champions s entry past other.chosen is.known;
  used = is.used ∙ sym (ends_same s entry past other);
}

-- ---- the session of the entry

self : (s : ℕ) → eqb s s ≡ true
self s = eq-eqb s s refl

-- whether a choice is pending after an entry that settles it
settled_now : (s : ℕ) (entry : Entry) (past : List Entry) → settles s entry.point ≡ true → is_pending s (entry ∷ past) ≡ is_some (champions_chosen entry.point)
unfolding is_pending pending
settled_now s entry past here = ap (λ (o : Option Entry). is_some (option_and_then (λ (e : Entry). champions_chosen e.point) o)) (newest_now (settles s) entry past here)

settled_same : (s : ℕ) (entry : Entry) (past : List Entry) → settles s entry.point ≡ false → is_pending s (entry ∷ past) ≡ is_pending s past
unfolding is_pending pending
settled_same s entry past other = ap (λ (o : Option Entry). is_some (option_and_then (λ (e : Entry). champions_chosen e.point) o)) (newest_same (settles s) entry past other)

champions_now : (s : ℕ) (entry : Entry) (past : List Entry) (champions : List ManifestId) → chooses s entry.point ≡ true → champions_chosen entry.point ≡ Some champions → last_champions s (entry ∷ past) ≡ champions
unfolding last_champions
champions_now s entry past champions here is =
    ap (λ (o : Option Entry). unwrap_or (option_and_then (λ (e : Entry). champions_chosen e.point) o) []) (newest_now (chooses s) entry past here)
    ∙ ap (λ (o : Option (List ManifestId)). unwrap_or o []) is

least : (n : ℕ) → max 0 n ≡ n
least n = omega arith

used_same : (s : ℕ) (entry : Entry) (past : List Entry) → end_used s entry.point ≡ 0 → own_end s (entry ∷ past) ≡ own_end s past
unfolding own_end greatest_by
used_same s entry past none = ap (λ n. max n (own_end s past)) none ∙ least (own_end s past)

used_more : (s n : ℕ) (entry : Entry) (past : List Entry) → end_used s entry.point ≡ n → own_end s (entry ∷ past) ≡ max n (own_end s past)
unfolding own_end greatest_by
used_more s n entry past is = ap (λ n. max n (own_end s past)) is

module _ (author : ℕ) (past : List Entry) (row : Row) (s : ℕ) (is : IsSession row s past) where
  pub begin_noted : (name : List ℕ) → row ≡ no_row → IsSession (begun (length past)) s (made author (Begin name (Some s)) ∷ past)
  unfolding begins session_begun chooses commits finishes aborts closes deletes settles end_used champions_chosen
  begin_noted name none =
      let e : Entry = made author (Begin name (Some s)) in
      record {
        begun = ap (λ l. l ++ length past ∷ []) (ap (λ (r : Row). r.begins) (sym none) ∙ is.begun) ∙ sym (numbers_more (begins s) e past (self s));
        closed = ap (λ (r : Row). was_closed r.stage) (sym none) ∙ is.closed ∙ sym (has_same (closes s) e past refl);
        finished = ap (λ (r : Row). was_finished r.stage) (sym none) ∙ is.finished ∙ sym (has_same (finishes s) e past refl);
        deleted = ap (λ (r : Row). was_deleted r.stage) (sym none) ∙ is.deleted ∙ sym (has_same (deletes s) e past refl);
        chosen = ap (λ (r : Row). r.choices) (sym none) ∙ is.chosen ∙ sym (numbers_same (chooses s) e past refl);
        committed = ap (λ (r : Row). r.commits) (sym none) ∙ is.committed ∙ sym (numbers_same (commits s) e past refl);
        settled = ap (λ (r : Row). r.is_pending) (sym none) ∙ is.settled ∙ sym (settled_same s e past refl);
        known = known_kept [] s e past refl (subst (λ (r : Row). CommitThese r.champions (last_champions s past) past) none is.known);
        used = ap (λ (r : Row). r.own_end) (sym none) ∙ is.used ∙ sym (used_same s e past refl);
      }

  pub choose_noted : (hooks : List Name) (champions : List ManifestId) (numbers : List ℕ) → CommitThese numbers champions past
      → IsSession (chosen (length past) numbers row) s (made author (Choose s hooks champions) ∷ past)
  unfolding begins session_begun chooses commits finishes aborts closes deletes settles end_used champions_chosen
  choose_noted hooks champions numbers these =
      let e : Entry = made author (Choose s hooks champions) in
      record {
        begun = is.begun ∙ sym (numbers_same (begins s) e past refl);
        closed = is.closed ∙ sym (has_same (closes s) e past refl);
        finished = is.finished ∙ sym (has_same (finishes s) e past refl);
        deleted = is.deleted ∙ sym (has_same (deletes s) e past refl);
        chosen = ap (λ l. l ++ length past ∷ []) is.chosen ∙ sym (numbers_more (chooses s) e past (self s));
        committed = is.committed ∙ sym (numbers_same (commits s) e past refl);
        settled = sym (settled_now s e past (ap (λ b. b || (false || false)) (self s)));
        known = subst (λ (ids : List ManifestId). CommitThese numbers ids (e ∷ past)) (sym (champions_now s e past champions (self s) refl)) (commit_these_kept numbers champions e past these);
        used = is.used ∙ sym (used_same s e past refl);
      }

  pub commit_noted : (id : ManifestId) (content text : Name) (chunks bytes fresh fresh_bytes : ℕ) (uses : List ContainerId) → s ≡ id.session
      → IsSession (committed (length past) (end_among s uses) row) s (made author (Commit id content text chunks bytes fresh fresh_bytes uses) ∷ past)
  unfolding begins session_begun chooses commits finishes aborts closes deletes settles end_used champions_chosen
  commit_noted id content text chunks bytes fresh fresh_bytes uses same =
      let e : Entry = made author (Commit id content text chunks bytes fresh fresh_bytes uses) in
      let here : eqb s id.session ≡ true = eq-eqb s id.session same in
      let back : eqb id.session s ≡ true = eq-eqb id.session s (sym same) in
      record {
        begun = is.begun ∙ sym (numbers_same (begins s) e past refl);
        closed = is.closed ∙ sym (has_same (closes s) e past refl);
        finished = is.finished ∙ sym (has_same (finishes s) e past refl);
        deleted = is.deleted ∙ sym (has_same (deletes s) e past refl);
        chosen = is.chosen ∙ sym (numbers_same (chooses s) e past refl);
        committed = ap (λ l. l ++ length past ∷ []) is.committed ∙ sym (numbers_more (commits s) e past here);
        settled = sym (settled_now s e past (ap (λ b. false || (b || false)) here));
        known = known_kept row.champions s e past refl is.known;
        used = ap (max (end_among s uses)) is.used ∙ sym (used_more s (end_among s uses) e past (ap (λ b. cond b (end_among s uses) 0) back));
      }

  pub finish_noted : (containers : ℕ) → row.stage ≡ Unfinished → IsSession (finished row) s (made author (Finish s containers) ∷ past)
  unfolding begins session_begun chooses commits finishes aborts closes deletes settles end_used champions_chosen
  finish_noted containers still =
      let e : Entry = made author (Finish s containers) in
      record {
        begun = is.begun ∙ sym (numbers_same (begins s) e past refl);
        closed = sym (has_now (closes s) e past (ap (λ b. b || false) (self s)));
        finished = sym (has_now (finishes s) e past (self s));
        deleted = ap was_deleted (sym still) ∙ is.deleted ∙ sym (has_same (deletes s) e past refl);
        chosen = is.chosen ∙ sym (numbers_same (chooses s) e past refl);
        committed = is.committed ∙ sym (numbers_same (commits s) e past refl);
        settled = is.settled ∙ sym (settled_same s e past refl);
        known = known_kept row.champions s e past refl is.known;
        used = is.used ∙ sym (used_same s e past refl);
      }

  pub abort_noted : (containers texts : ℕ) → row.stage ≡ Unfinished → IsSession (aborted row) s (made author (Abort s containers texts) ∷ past)
  unfolding begins session_begun chooses commits finishes aborts closes deletes settles end_used champions_chosen
  abort_noted containers texts still =
      let e : Entry = made author (Abort s containers texts) in
      record {
        begun = is.begun ∙ sym (numbers_same (begins s) e past refl);
        closed = sym (has_now (closes s) e past (ap (λ b. false || b) (self s)));
        finished = ap was_finished (sym still) ∙ is.finished ∙ sym (has_same (finishes s) e past refl);
        deleted = ap was_deleted (sym still) ∙ is.deleted ∙ sym (has_same (deletes s) e past refl);
        chosen = is.chosen ∙ sym (numbers_same (chooses s) e past refl);
        committed = is.committed ∙ sym (numbers_same (commits s) e past refl);
        settled = sym (settled_now s e past (ap (λ b. false || (false || b)) (self s)));
        known = known_kept row.champions s e past refl is.known;
        used = is.used ∙ sym (used_same s e past refl);
      }

  pub delete_noted : (name : List ℕ) → row.stage ≡ Retained → IsSession (deleted row) s (made author (Delete name (Some s)) ∷ past)
  unfolding begins session_begun chooses commits finishes aborts closes deletes settles end_used champions_chosen
  delete_noted name kept =
      let e : Entry = made author (Delete name (Some s)) in
      record {
        begun = is.begun ∙ sym (numbers_same (begins s) e past refl);
        closed = ap was_closed (sym kept) ∙ is.closed ∙ sym (has_same (closes s) e past refl);
        finished = ap was_finished (sym kept) ∙ is.finished ∙ sym (has_same (finishes s) e past refl);
        deleted = sym (has_now (deletes s) e past (self s));
        chosen = is.chosen ∙ sym (numbers_same (chooses s) e past refl);
        committed = is.committed ∙ sym (numbers_same (commits s) e past refl);
        settled = is.settled ∙ sym (settled_same s e past refl);
        known = known_kept row.champions s e past refl is.known;
        used = is.used ∙ sym (used_same s e past refl);
      }
