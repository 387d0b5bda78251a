mod ChunksFound
mod FaultsFound
mod FrontsWritten
