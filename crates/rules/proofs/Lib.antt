pub mod Voyage
