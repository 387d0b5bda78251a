-- Law: what holds of every store of photos (own).
use Rattle.std.specs.Prelude.{List}
use Rattle.blob_store.specs.States.{StoreState, IsSound}
use Rattle.photo_store.specs.FileEntries.{AreEntries}
use Rattle.photo_store.specs.FileStores.{FileCall, FileReply, IsRun, no_files}
use Rattle.photo_store.specs.Photos.{SuitsKey}

-- a journal, read with the keeper's blobs, is a run of the store of one thread that begins without a file
abbrev pub JournalIsARun : Type 0
JournalIsARun =
    (store : StoreState) → IsSound SuitsKey store
    → (calls : List (FileCall × FileReply)) × AreEntries store.blobs store.journal calls
    × IsRun no_files calls
