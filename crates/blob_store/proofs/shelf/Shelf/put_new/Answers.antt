use Rattle.std.proofs.Common.{◌≡◌, ℕ, ◌+◌, ◌<◌, List, Some, None, [], ◌∷◌, length, sym, ap, ◌∙◌, subst, refl, arith, length-append}
use Rattle.std.specs.Prelude.{slice_get}
use Rattle.blob_store.specs.declared.record.Record.{Record}
use Rattle.blob_store.specs.declared.record.Call.TheVariants.{Put}
use Rattle.blob_store.specs.declared.record.Reply.TheVariants.{Stored}
use Rattle.blob_store.specs.Journals.{kept}
use Rattle.blob_store.specs.States.{StoreState, Puts}
use Rattle.blob_store.specs.CallSteps.{Enters}
use Rattle.blob_store.proofs.ShelfKept.{agrees, taken_back, below_stored, get_last, replies_stored}
use Rattle.blob_store.proofs.shelf.Shelf.put_new.Goals as goal

pub invariant_of-self-in-Err-append : goal.invariant_of-self-in-Err-append
invariant_of-self-in-Err-append g c =
    let was = c.self.invariant in
    let blobs = c.in-Err-append.ensures.stays in
    let inserted = c.in_default.ensures.updates in
    let nothing : kept c.self.inside.journal.items c.args.key ≡ None =
    subst (λ (s : StoreState). kept s.journal c.args.key ≡ None) (sym c.self.view_is) c.requires.nothing in (
      taken_back c.self.inside.map c.map_insert.new.map c.remove.new.self c.self.inside.journal.items c.args.key
          c.self.inside.count inserted c.remove.ensures.updates was.0 nothing,
      (λ key number e. subst (λ (bs : List (List ℕ)). number < length bs) (sym blobs) (was.1 key number e)),
      was.2 ∙ ap (λ (bs : List (List ℕ)). length bs) (sym blobs),
      was.3,
      was.4,
      was.5,
    )

pub invariant_of-self-2 : goal.invariant_of-self-2
invariant_of-self-2 g c =
    let was = c.self.invariant in
    let room : length c.self.inside.journal.items < c.self.inside.limit =
    subst (λ (s : StoreState). length s.journal < s.limit) (sym c.self.view_is) c.requires.room in
    let r : Record =
    record { caller = c.args.caller; call = Put; key = c.args.key; reply = Stored c.self.inside.count } in
    let items = c.push_reserved.ensures.items in
    let inserted = c.in_default.ensures.updates in
    let blobs = c.in_default-append.ensures.appended in
    let many : length (g.P.Keeper.blobs c.append.new.self) ≡ c.self.inside.count + 1 =
    ap (λ (bs : List (List ℕ)). length bs) blobs
    ∙ (length-append (g.P.Keeper.blobs c.self.inside.keeper) (c.args.blob.now ∷ [])
    ∙ ap (λ (n : ℕ). n + 1) (sym was.2)) in
    let len = c.push_reserved.ensures.len in
    let capacity = c.push_reserved.ensures.capacity in
    let few = was.3 in
    let wide = was.5 in (
      (λ key. agrees c.self.inside.map c.map_insert.new.map c.self.inside.journal.items r (Some c.self.inside.count) inserted was.0 (λ now. refl) key
          ∙ ap (λ (l : List Record). kept l key) (sym items)),
      (λ key number e. subst (λ (n : ℕ). number < n) (sym many)
          (below_stored c.self.inside.journal.items r c.self.inside.count refl
          (λ q k f. subst (λ (n : ℕ). k < n) (sym was.2) (was.1 q k f)) key number
          (ap (λ (l : List Record). kept l key) (sym items) ∙ e))),
      sym many,
      omega (arith, room, len, capacity),
      omega (arith, room, len, capacity),
      omega (arith, room, len, capacity),
    )

pub returns : goal.returns
returns g c =
    let was = c.self.invariant in
    let blobs = c.in_default-append.ensures.appended in
    let nothing : kept c.self.inside.journal.items c.args.key ≡ None =
    subst (λ (s : StoreState). kept s.journal c.args.key ≡ None) (sym c.self.view_is) c.requires.nothing in
    let room : length c.self.inside.journal.items < c.self.inside.limit =
    subst (λ (s : StoreState). length s.journal < s.limit) (sym c.self.view_is) c.requires.room in
    let t : StoreState = record {
      journal = c.push_reserved.new.self.items;
      blobs = g.P.Keeper.blobs c.append.new.self;
      faults = g.P.Keeper.fault_count c.append.new.self;
      limit = c.self.inside.limit;
    } in
    subst (λ (s : StoreState). Enters s t c.args.caller (Puts c.args.key c.args.blob.now) (Stored c.self.inside.count))
    c.self.view_is (record {
      room = room;
      reply_is = replies_stored (kept c.self.inside.journal.items c.args.key) c.self.inside.count
          (length (g.P.Keeper.blobs c.self.inside.keeper)) nothing was.2;
      journal = c.push_reserved.ensures.items;
      blobs = blobs;
      names = ap (λ (bs : List (List ℕ)). slice_get bs c.self.inside.count) blobs
          ∙ get_last (g.P.Keeper.blobs c.self.inside.keeper) c.args.blob.now c.self.inside.count was.2;
      faults = c.append.ensures.lasting;
      limit = refl;
    })
