pub mod NameByte
