-- When files were read that nobody wrote meanwhile.
use Rattle.std.specs.Prelude.{◌≡◌, false}
use Rattle.tabview_database.specs.declared.settling.Image.{Image}
use Rattle.tabview_database.specs.declared.settling.Stamp.{Stamp}

-- two looks show the same file, of the same length and time
pub record IsFile (a b : Stamp) : Type 0 where
  pub node : a.node ≡ b.node
  pub len : a.len ≡ b.len
  pub second : a.second ≡ b.second
  pub nanosecond : a.nanosecond ≡ b.nanosecond

-- two looks show the same file, the same change counter and the same header of a log
pub record AreAlike (a b : Stamp) : Type 0 where
  pub file : IsFile a b
  pub header : a.header.items ≡ b.header.items
  pub log : a.log.items ≡ b.log.items

-- a look that shows no write that isn't finished
abbrev pub Rests : {T : Type 0} → (T → Stamp → T → Type 0) → Stamp → T → Type 0
Rests {T} shows stamp to = ((from : T) × shows from stamp to) × (stamp.has_journal ≡ false)

-- the image was read between two looks that show the same, and no write that isn't finished
pub record ReadsSettled {T : Type 0} (shows : T → Stamp → T → Type 0) (gives : T → Image → T → Type 0) (image : Image) (to : T) : Type 0 where
  pub before : Stamp
  pub after : Stamp
  pub first : T
  pub last : T
  pub shown : Rests shows before first
  pub read : gives first image last
  pub again : shows last after to
  pub alike : AreAlike before after
