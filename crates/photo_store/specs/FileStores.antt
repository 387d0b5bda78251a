-- Statement: the store of one thread, a map from keys to files, and what it replies (docs/STORE.md, Replies).
use Rattle.std.specs.Prelude.{ℕ, ◌≡◌, if◌then◌else◌, bytes_eq, List, [], ◌∷◌, Option, Some, None}
use Rattle.sha2.specs.Sha256.{sha256}

-- a map from keys to files
abbrev pub Files : Type 0
Files = List ℕ → Option (List ℕ)

-- the map without a file
abbrev pub no_files : Files
no_files key = None

-- what a call asks: a put has a file, the others have a key
pub data FileCall : Type 0 where
  PutFile : List ℕ → FileCall
  FindFile : List ℕ → FileCall
  RemoveFile : List ℕ → FileCall

-- its key: a put's is the SHA-256 of its file
abbrev pub key_asked : FileCall → List ℕ
key_asked (PutFile file) = sha256 file
key_asked (FindFile key) = key
key_asked (RemoveFile key) = key

-- the replies: the file is stored; the key has it already; the key has another file; the key's file; the key has none;
-- the key is removed
pub data FileReply : Type 0 where
  FileStored : FileReply
  FileHeld : FileReply
  FileClash : FileReply
  FileFound : List ℕ → FileReply
  FileMissing : FileReply
  FileRemoved : FileReply

-- the reply to a call, by the file that its key has
abbrev pub file_reply : Option (List ℕ) → FileCall → FileReply
file_reply None (PutFile file) = FileStored
file_reply (Some held) (PutFile file) = if bytes_eq held file then FileHeld else FileClash
file_reply None (FindFile key) = FileMissing
file_reply (Some held) (FindFile key) = FileFound held
file_reply None (RemoveFile key) = FileMissing
file_reply (Some held) (RemoveFile key) = FileRemoved

-- what the key has after it
abbrev pub file_left : Option (List ℕ) → FileCall → Option (List ℕ)
file_left None (PutFile file) = Some file
file_left (Some held) (PutFile file) = Some held
file_left now (FindFile key) = now
file_left now (RemoveFile key) = None

-- the map after a call
abbrev pub files_after : Files → FileCall → Files
files_after files call key =
    if bytes_eq (key_asked call) key then file_left (files key) call else files key

-- calls with these replies are a run of the store of one thread from this map on
abbrev pub IsRun : Files → List (FileCall × FileReply) → Type 0
IsRun files [] = Unit {0}
IsRun files (c ∷ cs) =
    (c.1 ≡ file_reply (files (key_asked c.0)) c.0) × IsRun (files_after files c.0) cs
