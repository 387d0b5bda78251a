-- Statement: the records of an input, and the replies to them (docs/STORE.md, Records).
use Rattle.std.specs.Prelude.{ℕ, ◌≡◌, ◌≢◌, ◌⊎◌, ◌<◌, ◌≤◌, ◌^◌, List, [], ◌∷◌, ◌++◌, length, Option}
use Rattle.std.specs.Io.KnownBytes.{IsAtEnd}
use Rattle.byteorder.specs.Endian.{big_bytes}
use Rattle.container_spec.specs.Limits.{most_of_a_file}
use Rattle.photo_store.specs.FileStores.{Files, FileCall, PutFile, FindFile, RemoveFile, FileReply, FileStored, FileHeld, FileClash, FileFound, FileMissing, FileRemoved, key_asked, file_reply, files_after}

-- the first byte of a record
abbrev pub put_mark : ℕ
put_mark = 0x50

abbrev pub find_mark : ℕ
find_mark = 0x47

abbrev pub remove_mark : ℕ
remove_mark = 0x44

-- how many bytes a key has
abbrev pub key_length : ℕ
key_length = 32

-- how many records are answered at most
abbrev pub most_records : ℕ
most_records = 1000000

-- the bytes of a record: 50, the length in four bytes and the file; or 47 and the key; or 44 and the key
abbrev pub record_bytes : FileCall → List ℕ
record_bytes (PutFile file) = put_mark ∷ (big_bytes 4 (length file) ++ file)
record_bytes (FindFile key) = find_mark ∷ key
record_bytes (RemoveFile key) = remove_mark ∷ key

-- a record is as long as it may be
abbrev pub FitsRecord : FileCall → Type 0
FitsRecord (PutFile file) = length file ≤ most_of_a_file
FitsRecord (FindFile key) = length key ≡ key_length
FitsRecord (RemoveFile key) = length key ≡ key_length

-- bytes with which no record begins: another first byte, or a length above the most
abbrev pub IsForeign : List ℕ → Type 0
IsForeign bytes =
    ((mark : ℕ) × (bytes ≡ mark ∷ []) × (mark ≢ put_mark) × (mark ≢ find_mark)
    × (mark ≢ remove_mark))
    ⊎ ((long : ℕ) × (bytes ≡ put_mark ∷ big_bytes 4 long) × (most_of_a_file < long)
    × (long < 2 ^ 32))

-- a record without its last bytes
abbrev pub IsCut : List ℕ → Type 0
IsCut bytes =
    ((part : List ℕ) × (bytes ≡ put_mark ∷ part) × (length part < 4))
    ⊎ (((full : ℕ) × (part : List ℕ) × (bytes ≡ put_mark ∷ (big_bytes 4 full ++ part))
    × (full ≤ most_of_a_file) × (length part < full))
    ⊎ ((mark : ℕ) × (part : List ℕ) × (bytes ≡ mark ∷ part)
    × ((mark ≡ find_mark) ⊎ (mark ≡ remove_mark)) × (length part < key_length)))

-- no byte of a record was read, or not all of them
abbrev pub IsBegun : List ℕ → Type 0
IsBegun bytes = (bytes ≡ []) ⊎ IsCut bytes

-- one record was read
abbrev pub IsRecord : List ℕ → Type 0
IsRecord bytes = (call : FileCall) × FitsRecord call × (bytes ≡ record_bytes call)

-- a bad record was read, and this is left: no record begins with its bytes, or the input ended in it
abbrev pub IsBad : List ℕ → Option (List ℕ) → Type 0
IsBad bytes left = IsForeign bytes ⊎ (IsCut bytes × IsAtEnd left)

-- the first byte of a reply: to a put, to a find, to a removal
abbrev pub stored_mark : ℕ
stored_mark = 1

abbrev pub held_mark : ℕ
held_mark = 2

abbrev pub clash_mark : ℕ
clash_mark = 3

abbrev pub found_mark : ℕ
found_mark = 4

abbrev pub not_found_mark : ℕ
not_found_mark = 5

abbrev pub removed_mark : ℕ
removed_mark = 6

abbrev pub not_removed_mark : ℕ
not_removed_mark = 7

-- the bytes of a reply: its mark, and the key of a put; the length in four bytes and the file, if it is found
abbrev pub reply_bytes : FileCall → FileReply → List ℕ
reply_bytes call FileStored = stored_mark ∷ key_asked call
reply_bytes call FileHeld = held_mark ∷ key_asked call
reply_bytes call FileClash = clash_mark ∷ key_asked call
reply_bytes call (FileFound file) = found_mark ∷ (big_bytes 4 (length file) ++ file)
reply_bytes (PutFile file) FileMissing = []
reply_bytes (FindFile key) FileMissing = not_found_mark ∷ []
reply_bytes (RemoveFile key) FileMissing = not_removed_mark ∷ []
reply_bytes call FileRemoved = removed_mark ∷ []

-- the replies to records of the store of one thread that begins with these files
abbrev pub replies : Files → List FileCall → List ℕ
replies files [] = []
replies files (c ∷ cs) =
    reply_bytes c (file_reply (files (key_asked c)) c) ++ replies (files_after files c) cs

-- the files after the calls that records ask for
abbrev pub files_by : Files → List FileCall → Files
files_by files [] = files
files_by files (c ∷ cs) = files_by (files_after files c) cs
